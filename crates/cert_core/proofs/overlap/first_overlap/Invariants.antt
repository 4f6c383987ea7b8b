use Rattle.std.proofs.Common.{◌≡◌, take, length}
use Rattle.std.specs.Prelude.{All}
use Rattle.cert_core.specs.Claim.{ids_of}
use Rattle.cert_core.specs.Verdict.{HasNoOverlap}
use Rattle.cert_core.proofs.overlap.first_overlap.Given as goal

-- no part before `number` has an overlap, and the next part's indices start after theirs
abbrev pub invariant-loop-number : goal.invariant-loop-number
invariant-loop-number l = record {
  start : l.start ≡ length (ids_of (take l.number l.claim));
  apart : All (HasNoOverlap l.items) (take l.number l.claim);
}
