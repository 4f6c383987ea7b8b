-- The part of a list between two indices.
use Rattle.std.proofs.Common.{◌≡◌, ℕ, zero, suc, ◌+◌, ◌-◌, ◌<◌, ◌≤◌, List, [], ◌∷◌, ◌++◌, length, take, drop, Some, None, refl, ap, ◌∙◌, arith}
use Rattle.std.specs.List.{slice_get}
use Rattle.csv.specs.Records.{field_at}
use Rattle.std.proofs.lemmas.List.{take_all, length-take, length-drop, drop-take, drop-drop, take-take}
use Rattle.std.proofs.lemmas.Option.{slice_get_past}
use Rattle.list_core.proofs.PlaceLemmas.{slice_get-take, slice_get-drop}

-- An element of a part.
pub slice_get-part : {X : Type 0} (from to : ℕ) (xs : List X) (i : ℕ) → i < to - from
    → slice_get (take (to - from) (drop from xs)) i ≡ slice_get xs (from + i)
slice_get-part from to xs i lt = slice_get-take (to - from) (drop from xs) i lt ∙ slice_get-drop from xs i

pub length-part : {X : Type 0} (from to : ℕ) (xs : List X) → to ≤ length xs
    → length (take (to - from) (drop from xs)) ≡ to - from
length-part from to xs h = omega (arith, length-take (to - from) (drop from xs), length-drop from xs)

pub slice_get-part-past : {X : Type 0} (from to : ℕ) (xs : List X) (i : ℕ) → to - from ≤ i
    → slice_get (take (to - from) (drop from xs)) i ≡ None
slice_get-part-past from to xs i h =
    slice_get_past (take (to - from) (drop from xs)) i (omega (arith, length-take (to - from) (drop from xs)))

-- The part from an index to the end.
pub rest-from : {X : Type 0} (xs rest : List X) (n k : ℕ) → n ≡ length xs → rest ≡ take (n - k) (drop k xs)
    → rest ≡ drop k xs
rest-from xs rest n k size e = e ∙ take_all (n - k) (drop k xs) (omega (arith, size, length-drop k xs))

-- The part before an index.
pub part-first : {X : Type 0} (xs part : List X) (k : ℕ) → part ≡ take (k - 0) (drop 0 xs) → part ≡ take k xs
part-first xs part k e = let whole : k - 0 ≡ k = omega arith in e ∙ ap (λ n. take n xs) whole

-- The part from the end is empty.
pub part-none : {X : Type 0} (xs part : List X) (n m : ℕ) → n ≡ m → part ≡ take (n - m) (drop m xs) → part ≡ []
part-none xs part n m same e = let none : n - m ≡ 0 = omega (arith, same) in e ∙ ap (λ l. take l (drop m xs)) none

-- A part of a part.
pub part-part : {X : Type 0} (a b from to : ℕ) (xs : List X) → from ≤ to → to ≤ b - a
    → take (to - from) (drop from (take (b - a) (drop a xs))) ≡ take ((a + to) - (a + from)) (drop (a + from) xs)
part-part a b from to xs h within =
    let rest : ℕ = (b - a) - from in
    let whole : b - a ≡ from + rest = omega arith in
    let same : (a + to) - (a + from) ≡ to - from = omega arith in
    rw (whole, drop-take from rest (drop a xs), drop-drop from a xs, same)
    (take-take (to - from) rest (drop (a + from) xs) (omega arith))

pub field_at-slice_get : (fields : List (List ℕ)) (i : ℕ) → field_at fields i ≡ slice_get fields i
unfolding field_at
field_at-slice_get [] i = refl
field_at-slice_get (f ∷ fs) zero = refl
field_at-slice_get (f ∷ fs) (suc i) = field_at-slice_get fs i

pub take-slice_get : {X : Type 0} (xs : List X) (i : ℕ) (x : X) → slice_get xs i ≡ Some x
    → take (i + 1) xs ≡ take i xs ++ x ∷ []
take-slice_get [] i x e = absurd (cc e)
take-slice_get (y ∷ ys) zero x e = let same : y ≡ x = cc in ap (λ z. z ∷ []) same
take-slice_get (y ∷ ys) (suc i) x e =
    let next : suc i + 1 ≡ suc (i + 1) = omega arith in rw next (ap (λ l. y ∷ l) (take-slice_get ys i x e))

pub slice_get-there : {X : Type 0} (xs : List X) (i : ℕ) → i < length xs → slice_get xs i ≡ None → ⊥
slice_get-there [] i lt e = omega arith
slice_get-there (x ∷ xs) zero lt e = cc
slice_get-there (x ∷ xs) (suc i) lt e = slice_get-there xs i (omega arith) e

pub drop-slice_get : {X : Type 0} (xs : List X) (i : ℕ) (x : X) → slice_get xs i ≡ Some x
    → drop i xs ≡ x ∷ drop (i + 1) xs
drop-slice_get [] i x e = absurd (cc e)
drop-slice_get (y ∷ ys) zero x e = let same : y ≡ x = cc in ap (λ z. z ∷ ys) same
drop-slice_get (y ∷ ys) (suc i) x e =
    let next : suc i + 1 ≡ suc (i + 1) = omega arith in rw next (drop-slice_get ys i x e)
