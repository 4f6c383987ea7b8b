-- The slots of a job's values: which slot is a pair's, and the slots after a value is stored.
use Rattle.std.proofs.Common.{All, ◌≡◌, ◌≢◌, ℕ, zero, suc, ◌+◌, ◌<◌, map, ◌∷◌, [], List, Option, Some, None, IsSome, is_some, length, sym, ap, ◌∙◌, refl, subst, ⊎_elim, arith, slice_index_or, slice_set, slice_get, get_or-set_same, get_or-set_other, length-set}
use Rattle.std.proofs.lemmas.Bool.{cases_eq}
use Rattle.std.proofs.lemmas.Bool.Decides.{nat_tests}
use Rattle.std.proofs.lemmas.List.{get_or_default, length-map}
use Rattle.std.proofs.lemmas.List.Elements.{All-head}
use Rattle.std.proofs.lemmas.Option.{same_Some, none-some}
use Rattle.std.proofs.Math.Logic.{∥∥₁_elim}
use Rattle.std.specs.Prelude.{if◌then◌else◌}
use Rattle.work_core.specs.declared.job.PairWork as PairWork
use Rattle.work_core.specs.declared.name.PairName.{PairName}
use Rattle.work_core.specs.Collected.{AreAtTheirPlaces, AreJobPlaces, ArePlaces}
use Rattle.work_core.specs.Counting.{times}
use Rattle.work_core.specs.Jobs.{Gives, Shares, AreValues}
use Rattle.work_core.specs.Workers.{count_at}
use Rattle.work_core.proofs.Counting.{times-cons}

-- a fact about each item of a list is one about its first
pub All-first : {X : Type 0} (P : X → Type 0) (x : X) (xs ys : List X) → ys ≡ x ∷ xs → All P ys → P x
All-first P x xs ys e all = All-head P x xs (subst (All P) e all)

-- a fact about a number still follows if a number is added on both sides
add_more : (k a b : ℕ) → (0 < a → 0 < b) → 0 < k + a → 0 < b + k
add_more (suc k) a b h some = omega arith
add_more zero a b h some = let p : 0 < b = h (omega (arith, some)) in omega (arith, p)

-- an option counted as a value has one
is_there : {T : Type 0} (x : Option T) → 0 < (if is_some x then 1 else 0) → IsSome x
is_there (Some y) some = refl
is_there None some = absurd (omega (arith, some))

-- reading a slot
pub place_read : {T : Type 0} (places : List (Option T)) (i : ℕ) (x : Option T) → i < length places
    → x ≡ slice_index_or places i x → slice_index_or places i None ≡ x
place_read places i x inside read = get_or_default places i None x inside ∙ sym read

-- a slot with a value counts as one
count_at-some : {T : Type 0} (places : List (Option T)) (x : ℕ) → IsSome (slice_index_or places x None)
    → count_at places x ≡ 1
count_at-some places x e = rw e refl

-- a value is in the slot where it was stored, and the others stay
pub count_at-set : {T : Type 0} (places : List (Option T)) (n x : ℕ) (o : T) → n < length places
    → 0 < count_at places x + times x (n ∷ []) → 0 < count_at (slice_set places n (Some o)) x
count_at-set {T} places n x o inside was =
    let new = slice_set places n (Some o) in
    ⊎_elim
    (λ (e : x ≡ n).
    let at_x = ap (λ (k : ℕ). slice_index_or new k None) e ∙ get_or-set_same places n (Some o) None inside in
    let full : count_at new x ≡ 1 = count_at-some new x (ap is_some at_x) in
    omega (arith, full))
    (λ (ne : x ≢ n).
    let zero_times : times x (n ∷ []) ≡ 0 = grind (arith, nat_tests) in
    let same : count_at new x ≡ count_at places x =
    ap (λ (y : Option T). count_at (y ∷ []) 0) (get_or-set_other places n x (Some o) None ne) in
    omega (arith, zero_times, same, was))
    (cases_eq x n)

-- the same if more values are still to be stored
pub count_at-set_more : {T : Type 0} (places : List (Option T)) (n x : ℕ) (o : T) (rest : List ℕ) → n < length places
    → 0 < count_at places x + times x (n ∷ rest) → 0 < count_at (slice_set places n (Some o)) x + times x rest
count_at-set_more {T} places n x o rest inside was =
    add_more (times x rest) (count_at places x + times x (n ∷ [])) (count_at (slice_set places n (Some o)) x)
    (count_at-set places n x o inside) (let e = times-cons x n rest in omega (arith, e, was))

-- a value of the list is in its slot
mapped_at : {T : Type 0} (outs : List T) (i : ℕ) (o : T) → slice_get outs i ≡ Some o
    → slice_index_or (map (λ (x : T). Some x) outs) i None ≡ Some o
mapped_at [] i o at = absurd (none-some o at)
mapped_at (x ∷ outs) zero o at = at
mapped_at (x ∷ outs) (suc i) o at = mapped_at outs i o at

-- a slot that has a value
pub some_there : {T : Type 0} (places : List (Option T)) (x : ℕ) → 0 < count_at places x
    → IsSome (slice_index_or places x None)
some_there places x some = is_there (slice_index_or places x None) some

module _ {Out : Type 0} (IsValue : ℕ → Out → Type 0) where
  -- a value of index i in slot i
  pub at_their_places-set : (i : ℕ) (o : Out) (places : List (Option Out)) → i < length places → IsValue i o
      → AreAtTheirPlaces IsValue places → AreAtTheirPlaces IsValue (slice_set places i (Some o))
  at_their_places-set i o places inside gives are k x read =
      ⊎_elim
      (λ (e : k ≡ i).
      let at_k = ap (λ (j : ℕ). slice_index_or (slice_set places i (Some o)) j None) e in
      let same : Some x ≡ Some o = sym read ∙ (at_k ∙ get_or-set_same places i (Some o) None inside) in
      subst (λ (y : Out). IsValue k y) (sym (same_Some x o same)) (subst (λ (j : ℕ). IsValue j o) (sym e) gives))
      (λ (ne : k ≢ i). are k x (sym (get_or-set_other places i k (Some o) None ne) ∙ read))
      (cases_eq k i)

  -- the same with a slot for each index
  pub places-put : (count i : ℕ) (o : Out) (places : List (Option Out)) → i < count → IsValue i o
      → ArePlaces count IsValue places → ArePlaces count IsValue (slice_set places i (Some o))
  places-put count i o places inside gives are = record {
    len = length-set places i (Some o) ∙ are.len;
    each = at_their_places-set i o places (omega (arith, inside, are.len)) gives are.each;
  }

  -- a value in each slot, and so a value for each index
  pub values_of_places : (count : ℕ) (places : List (Option Out)) (outs : List Out) → ArePlaces count IsValue places
      → places ≡ map (λ (x : Out). Some x) outs
      → (length outs ≡ count) × ((i : ℕ) (o : Out) → slice_get outs i ≡ Some o → IsValue i o)
  values_of_places count places outs are e = (
    (let h = ap (λ (l : List (Option Out)). length l) e in
        let m = length-map outs (λ (x : Out). Some x) in
        omega (arith, h, m, are.len)),
    λ i o at. are.each i o (ap (λ (l : List (Option Out)). slice_index_or l i None) e ∙ mapped_at outs i o at),
  )

module _ {W Out : Type 0} (g : PairWork.Ghosts W Out) where
  -- a number found by a pair's name has that name
  abbrev pub Named : W → Type 0
  Named w = (p : PairName) (i : ℕ) → g.place_of w p ≡ Some i → (i < g.pairs w) × (g.name_of w i ≡ p)

  -- the slot of a pair is one of the slots
  pub place_inside : (w : W) (p : PairName) (i : ℕ) (places : List (Option Out)) → Named w → g.place_of w p ≡ Some i
      → AreJobPlaces g w places → i < length places
  place_inside w p i places named at are = let here = named p i at in omega (arith, here.0, are.len)

  -- a value of the pair in one job is one of the pair in a job that shares it
  pub shared_value : ((x : g.Inputs) (o : Out) → IsProp (g.IsValue x o)) → (v w : W) (p : PairName) (o : Out)
      → Shares g w v p → ∥ g.IsValue (g.inputs_of v p) o ∥₁ → Gives g w p o
  shared_value prop v w p o shares value =
      ∥∥₁_elim value (prop (g.inputs_of w p) o) (λ h. subst (λ (x : g.Inputs). g.IsValue x o) (sym shares.2) h)

  -- the same by the name of the pair
  pub places-set : (w : W) (p : PairName) (i : ℕ) (o : Out) (places : List (Option Out)) → Named w
      → g.place_of w p ≡ Some i → Gives g w p o → AreJobPlaces g w places → AreJobPlaces g w (slice_set places i (Some o))
  places-set w p i o places named at gives are =
      let here = named p i at in
      places-put (λ j x. Gives g w (g.name_of w j) x) (g.pairs w) i o places here.0 (subst (λ (q : PairName). Gives g w q o) (sym here.1) gives) are

  -- a value in each slot, and so the values of all pairs
  pub values_at_places : (w : W) (places : List (Option Out)) (outs : List Out) → AreJobPlaces g w places
      → places ≡ map (λ (x : Out). Some x) outs → AreValues g w outs
  values_at_places w places outs are e =
      let values = values_of_places (λ i o. Gives g w (g.name_of w i) o) (g.pairs w) places outs are e in
      record { len = values.0; each = values.1 }
