use Rattle.std.proofs.Common.{ℕ, ◌+◌, ◌-◌, ◌*◌, ◌^◌, ◌<◌, ◌≤◌, ◌≡◌, length}
use Rattle.std.specs.Prelude.{IsPermutation}
use Rattle.dip_core.specs.Heap.{CountsEachLook, IsHeapButBelow}
use Rattle.dip_core.proofs.placement.sift_down.Given as goal

-- each step down costs two looks; the index at least doubles with each level
abbrev pub invariant-loop-place : goal.invariant-loop-place
invariant-loop-place l = record {
  long : length l.ends.ends ≡ length l.initial.ends.ends;
  honest : CountsEachLook l.initial.ends l.ends;
  within : l.place < length l.ends.ends;
  heap : IsHeapButBelow l.ends.ends l.place;
  same : IsPermutation l.initial.ends.ends l.ends.ends;
  more : l.initial.ends.looks ≤ l.ends.looks;
  room : l.ends.looks ≤ l.initial.ends.looks + 2 * l.place;
  levels : (level : ℕ) × (2 ^ level ≤ l.place + 1) × (l.ends.looks ≤ l.initial.ends.looks + 2 * level);
}

abbrev pub decreases-loop-place : goal.decreases-loop-place
decreases-loop-place l = length l.ends.ends - l.place
