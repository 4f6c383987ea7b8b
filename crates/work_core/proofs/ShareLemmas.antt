-- Consecutive ranges and their values.
use Rattle.std.proofs.Common.{arith, Result, Ok, Err, IfOk, ◌≡◌, ℕ, zero, suc, ◌+◌, ◌<◌, ◌≤◌, List, [], ◌∷◌, Option, Some, None, refl, sym, ap, length, true, slice_get, slice_index_or, All, AllPairs}
use Rattle.std.specs.declared.cmp.Ordering.{Ordering}
use Rattle.std.proofs.lemmas.List.Sums.{sum_by-cons}
use Rattle.std.proofs.lemmas.Option.{slice_get_read}
use Rattle.work_core.specs.Ranges.{has_begun, range}
use Rattle.work_core.specs.Shares.{Gives, GivesFrom, IsCutBefore, end_at, range_at, workers_in}
use Rattle.work_core.specs.declared.range.Range.{Range}
use Rattle.work_core.specs.declared.shares.Cut.{Cut}

-- the range after the last cut has no end
pub no_end : {T : Type 0} (cuts : List (Cut T)) (i : ℕ) → length cuts ≤ i → end_at cuts i ≡ None
no_end [] i past = refl
no_end (c ∷ cs) zero past = absurd (omega (arith, past))
no_end (c ∷ cs) (suc i) past = no_end cs i (omega (arith, past))

-- each other range ends at its cut
pub some_end : {T : Type 0} (cuts : List (Cut T)) (i : ℕ) (cut : Cut T) → i < length cuts
    → cut ≡ slice_index_or cuts i cut → end_at cuts i ≡ Some cut.at
some_end [] i cut within is = absurd (omega (arith, within))
some_end {T} (c ∷ cs) zero cut within is = ap (λ (x : Cut T). Some x.at) (sym is)
some_end (c ∷ cs) (suc i) cut within is = some_end cs i cut (omega (arith, within)) is

module _ {T X : Type 0} (cmp : T → T → Ordering) (gives : Range T → X → Type 0) where
  -- after the first range, the others start where it ends
  next_range : (from : Option T) (c : Cut T) (cs : List (Cut T)) (i : ℕ)
      → range_at from (c ∷ cs) (suc i) ≡ range_at (Some c.at) cs i
  next_range from c cs zero = refl
  next_range from c cs (suc i) = refl

  -- if each value is the one of its range by index, the values are those of all ranges in order
  pub gives_from : (from : Option T) (cuts : List (Cut T)) (xs : List X) → length xs ≡ suc (length cuts)
      → All (λ (c : Cut T). has_begun cmp from c.at ≡ true) cuts → AllPairs (IsCutBefore cmp) cuts
      → ((i : ℕ) (x : X) → i ≤ length cuts → x ≡ slice_index_or xs i x → gives (range_at from cuts i) x)
      → GivesFrom cmp gives from cuts xs
  gives_from from [] [] len begun rise each = absurd (let bad : 0 ≡ 1 = len in omega (arith, bad))
  gives_from from [] (x ∷ []) len begun rise each = each 0 x (omega arith) refl
  gives_from from [] (x ∷ (y ∷ ys)) len begun rise each = absurd (omega (arith, len))
  gives_from from (c ∷ cs) [] len begun rise each = absurd (omega (arith, len))
  gives_from from (c ∷ cs) (x ∷ xs) len begun rise each = (
    begun 0 c (omega arith),
    each 0 x (omega arith) refl,
    gives_from (Some c.at) cs xs (omega (arith, len))
        (λ k d within. rise 0 (suc k) d (omega arith) (omega (arith, within)))
        (λ i j d before within. rise (suc i) (suc j) d (omega (arith, before)) (omega (arith, within)))
        (λ i y within is. rw (sym (next_range from c cs i)) (each (suc i) y (omega (arith, within)) is)),
  )

-- no cut is before the start of a range without a start
pub all_begun : {T : Type 0} (cmp : T → T → Ordering) (cuts : List (Cut T))
    → All (λ (c : Cut T). has_begun cmp None c.at ≡ true) cuts
all_begun cmp cuts = λ k d within. refl

-- each range that ends at a cut has a worker, so there are no more cuts than workers
pub few_cuts : {T : Type 0} (n : ℕ) (cuts : List (Cut T))
    → All (λ (c : Cut T). (0 < c.workers) × (c.workers ≤ n)) cuts → length cuts ≤ workers_in cuts
few_cuts n [] some = omega arith
few_cuts {T} n (c ∷ cs) some =
    let first = (some 0 c (omega arith)).0 in
    let rest = few_cuts n cs (λ k d within. some (suc k) d (omega (arith, within))) in
    let all = sum_by-cons (λ (x : Cut T). x.workers) c cs in
    omega (arith, first, rest, all)

-- if each value is one that a call for its range may return, the values belong to the ranges
pub all_given : {T X V E : Type 0} (cmp : T → T → Ordering) (post : Range T → ℕ → Result X E → Type 0)
    (cuts : List (Cut T)) (items : V → List X) → AllPairs (IsCutBefore cmp) cuts
    → (result : Result V E) → IfOk result (λ (found : V). length (items found) ≡ length cuts + 1)
    → IfOk result (λ (found : V). (i : ℕ) (x : X) → slice_get (items found) i ≡ Some x
    → (n : ℕ) × post (range_at None cuts i) n (Ok x))
    → IfOk result (λ (found : V). GivesFrom cmp (Gives post) None cuts (items found))
all_given cmp post cuts items rise (Err e) len each = tt
all_given cmp post cuts items rise (Ok found) len each =
    let xs = items found in
    gives_from cmp (Gives post) None cuts xs (omega (arith, len)) (all_begun cmp cuts) rise
    (λ i x within at. each i x (slice_get_read xs (length xs) i x refl (omega (arith, within, len)) at))

-- a property of the ranges together follows from one of each
module _ {T X : Type 0} (cmp : T → T → Ordering) (gives : Range T → X → Type 0) (come : Range T → List X → Type 0)
    (one : (r : Range T) (x : X) → gives r x → come r (x ∷ []))
    (more : (from : Option T) (at : T) (x : X) (xs : List X) → has_begun cmp from at ≡ true
    → gives (range from (Some at)) x → come (range (Some at) None) xs → come (range from None) (x ∷ xs)) where
  pub all_come : (from : Option T) (cuts : List (Cut T)) (xs : List X) → GivesFrom cmp gives from cuts xs
      → come (range from None) xs
  all_come from [] [] given = absurd given
  all_come from [] (x ∷ []) given = one (range from None) x given
  all_come from [] (x ∷ (y ∷ ys)) given = absurd given
  all_come from (c ∷ cs) [] given = absurd given
  all_come from (c ∷ cs) (x ∷ xs) given = more from c.at x xs given.0 given.1 (all_come (Some c.at) cs xs given.2)
