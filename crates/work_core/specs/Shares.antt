-- Partitions of the work: consecutive ranges.
use Rattle.std.specs.Prelude.{◌≡◌, ℕ, zero, suc, ◌+◌, ◌<◌, ◌≤◌, List, [], ◌∷◌, Option, Some, None, Result, Ok, true, All, AllPairs, length, option_map, slice_get, sum_by, unwrap_or}
use Rattle.std.specs.declared.cmp.Ordering.{Ordering}
use Rattle.work_core.specs.Ranges.{has, has_begun, is_from, range}
use Rattle.work_core.specs.declared.range.Range.{Range}
use Rattle.work_core.specs.declared.shares.Cut.{Cut}

-- one cut isn't after another
abbrev pub IsCutBefore : {T : Type 0} → (T → T → Ordering) → Cut T → Cut T → Type 0
IsCutBefore cmp a b = is_from cmp a.at b.at ≡ true

-- cuts in order; the range before each has some of the workers
pub record AreCuts {T : Type 0} (cmp : T → T → Ordering) (cuts : List (Cut T)) (workers : ℕ) : Type 0 where
  pub rise : AllPairs (IsCutBefore cmp) cuts
  pub some : All (λ (c : Cut T). (0 < c.workers) × (c.workers ≤ workers)) cuts

-- the end of the range at index `i`, if it has one
abbrev pub end_at : {T : Type 0} → List (Cut T) → ℕ → Option T
end_at [] i = None
end_at (cut ∷ cuts) zero = Some cut.at
end_at (cut ∷ cuts) (suc i) = end_at cuts i

-- the start of the range at index `i`, if the first range starts at `from`
abbrev pub start_at : {T : Type 0} → Option T → List (Cut T) → ℕ → Option T
start_at from cuts zero = from
start_at from cuts (suc i) = end_at cuts i

-- the range at index `i`, if the first one starts at `from`
abbrev pub range_at : {T : Type 0} → Option T → List (Cut T) → ℕ → Range T
range_at from cuts i = range (start_at from cuts i) (end_at cuts i)

-- how many workers the range at index `i` has, if the last one has `last`
abbrev pub workers_at : {T : Type 0} → List (Cut T) → ℕ → ℕ → ℕ
workers_at {T} cuts last i = unwrap_or (option_map (λ (c : Cut T). c.workers) (slice_get cuts i)) last

-- one of the ranges between the cuts, with the number of its workers
abbrev pub IsShare : {T : Type 0} → List (Cut T) → ℕ → Range T → ℕ → Type 0
IsShare cuts last r n =
    (i : ℕ) × (i ≤ length cuts) × (r ≡ range_at None cuts i) × (n ≡ workers_at cuts last i)

-- a call for the range, with some number of workers, may return this value
abbrev pub Gives : {T X E : Type 0} → (Range T → ℕ → Result X E → Type 0) → Range T → X → Type 0
Gives post r x = (n : ℕ) × post r n (Ok x)

-- the values belong, in order, to the ranges that the cuts separate from `from` on
abbrev pub GivesFrom : {T X : Type 0} → (T → T → Ordering) → (Range T → X → Type 0) → Option T → List (Cut T) → List X
    → Type 0
GivesFrom cmp gives from cuts [] = ⊥
GivesFrom cmp gives from [] (x ∷ []) = gives (range from None) x
GivesFrom cmp gives from [] (x ∷ (y ∷ ys)) = ⊥
GivesFrom cmp gives from (cut ∷ cuts) (x ∷ xs) =
    (has_begun cmp from cut.at ≡ true) × gives (range from (Some cut.at)) x × GivesFrom cmp gives (Some cut.at) cuts xs

-- the workers of all ranges that end at a cut
abbrev pub workers_in : {T : Type 0} → List (Cut T) → ℕ
workers_in {T} cuts = sum_by (λ (c : Cut T). c.workers) cuts

-- each value is in one of the ranges between the cuts
abbrev pub HaveEach : {T : Type 0} → (T → T → Ordering) → List (Cut T) → Type 0
HaveEach {T} cmp cuts = (x : T) → (i : ℕ) × (i ≤ length cuts) × (has cmp (range_at None cuts i) x ≡ true)

-- cuts at values up to `last`. Some of the remaining workers (`some`) are for the next range, and each remaining part
-- has one
pub record IsCutUpto {T : Type 0} (cmp : T → T → Ordering) (workers parts : ℕ) (cuts : List (Cut T)) (last : T) (some left : ℕ)
    : Type 0 where
  pub cut : AreCuts cmp cuts workers
  pub upto : All (λ (c : Cut T). is_from cmp c.at last ≡ true) cuts
  pub enough : some + parts < left
  pub shared : workers_in cuts + left ≡ workers
  pub within : left ≤ workers
