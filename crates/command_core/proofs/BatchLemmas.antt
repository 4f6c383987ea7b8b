-- Records in consecutive batches.
use Rattle.std.proofs.Common.{◌≡◌, ℕ, suc, ◌+◌, ◌<◌, ◌∙◌, ◌++◌, ◌∷◌, [], List, Option, None, Some, ap, append-nil, arith, drop, get_or, length, refl, sym, take}
use Rattle.std.specs.Prelude.{option_map}
use Rattle.std.specs.Option.{option_or}
use Rattle.std.proofs.Math.Seq.{drop-append_seam, take-suc}
use Rattle.std.proofs.lemmas.List.Concat.{flat_map-append}
use Rattle.command_core.specs.Seams.{joined, last}

-- Appended lists.
pub joined-append : {X : Type 0} (xs ys : List (List X)) → joined (xs ++ ys) ≡ joined xs ++ joined ys
joined-append {X} xs ys = flat_map-append (λ (list : List X). list) xs ys

-- One more list.
pub joined-push : {X : Type 0} (xs : List (List X)) (y : List X) → joined (xs ++ y ∷ []) ≡ joined xs ++ y
joined-push xs y = joined-append xs (y ∷ []) ∙ ap (λ l. joined xs ++ l) (append-nil y)

-- All lists except the first.
pub joined-rest : {X : Type 0} (lists rest : List (List X)) (list : List X) → lists ≡ list ∷ rest
    → joined rest ≡ drop (length list) (joined lists)
joined-rest lists rest list e =
    sym (ap (λ l. drop (length list) (joined l)) e ∙ drop-append_seam list (joined rest))

-- The last item of two lists is the second list's, if it has one.
pub last-both : {X : Type 0} (xs ys : List X) → last (xs ++ ys) ≡ option_or (last ys) (last xs)
last-both xs [] = ap last (append-nil xs)
last-both xs (y ∷ ys) = by xs y ys
  where
    there : {X : Type 0} (y : X) (ys : List X) (o : Option X) → option_or (last (y ∷ ys)) o ≡ last (y ∷ ys)
    there y [] o = refl
    there y (z ∷ ys) o = there z ys o

    by : {X : Type 0} (xs : List X) (y : X) (ys : List X)
        → last (xs ++ y ∷ ys) ≡ option_or (last (y ∷ ys)) (last xs)
    by [] y ys = sym (there y ys None)
    by (x ∷ []) y ys = sym (there y ys (Some x))
    by (x ∷ z ∷ xs) y ys = by (z ∷ xs) y ys

-- The same for two lists of records.
pub last-joined : {X : Type 0} (xs ys : List (List X))
    → last (joined (xs ++ ys)) ≡ option_or (last (joined ys)) (last (joined xs))
last-joined xs ys = ap last (joined-append xs ys) ∙ last-both (joined xs) (joined ys)

-- The same for the batches up to index `i` and one more.
pub last-more : {X : Type 0} (batches : List (List (List X))) (i : ℕ) (batch : List (List X)) → i < length batches
    → batch ≡ get_or batches i batch
    → last (joined (joined (take (i + 1) batches)))
    ≡ option_or (last (joined batch)) (last (joined (joined (take i batches))))
last-more batches i batch within is =
    let next : i + 1 ≡ suc i = omega arith in
    ap (λ n. last (joined (joined (take n batches)))) next
    ∙ ap (λ l. last (joined (joined l)))
    (take-suc batches i batch within ∙ ap (λ b. take i batches ++ b ∷ []) (sym is))
    ∙ ap (λ l. last (joined l)) (joined-push (take i batches) batch)
    ∙ last-joined (joined (take i batches)) batch

-- Mapping the chosen option is choosing among the mapped ones.
pub option_map-or : {A B : Type 0} (f : A → B) (o p : Option A)
    → option_map f (option_or o p) ≡ option_or (option_map f o) (option_map f p)
option_map-or f None p = refl
option_map-or f (Some a) p = refl
