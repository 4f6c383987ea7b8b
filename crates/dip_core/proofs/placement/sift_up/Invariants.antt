use Rattle.std.proofs.Common.{ℕ, ◌+◌, ◌^◌, ◌<◌, ◌≤◌, ◌≡◌, length}
use Rattle.std.specs.Prelude.{IsPermutation}
use Rattle.dip_core.specs.Heap.{CountsEachLook, IsHeapButAbove}
use Rattle.dip_core.proofs.placement.sift_up.Given as goal

-- each step up costs one look, and leaves one level less above the index
abbrev pub invariant-loop-place : goal.invariant-loop-place
invariant-loop-place l = record {
  long : length l.ends.ends ≡ length l.initial.ends.ends;
  honest : CountsEachLook l.initial.ends l.ends;
  within : l.place < length l.ends.ends;
  heap : IsHeapButAbove l.ends.ends l.place;
  same : IsPermutation l.initial.ends.ends l.ends.ends;
  more : l.initial.ends.looks ≤ l.ends.looks;
  room : l.ends.looks + l.place < l.initial.ends.looks + length l.ends.ends;
  levels : (digits : ℕ) → length l.ends.ends ≤ 2 ^ digits
      → (levels : ℕ) × (l.place + 1 ≤ 2 ^ levels) × (l.ends.looks + levels ≤ l.initial.ends.looks + digits);
}

abbrev pub decreases-loop-place : goal.decreases-loop-place
decreases-loop-place l = l.place
