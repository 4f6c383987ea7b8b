use Rattle.std.proofs.Common.{take}
use Rattle.cert_core.specs.Ids.{IsDistinct}
use Rattle.cert_core.specs.Places.{AreMarks}
use Rattle.cert_core.proofs.marks.first_twice.Given as goal

-- the indices before `place-index` are marked, and each was met once
abbrev pub invariant-loop-place : goal.invariant-loop-place
invariant-loop-place l = record {
  marked : AreMarks (take l.place-index l.places) l.marks;
  distinct : IsDistinct (take l.place-index l.places);
}
