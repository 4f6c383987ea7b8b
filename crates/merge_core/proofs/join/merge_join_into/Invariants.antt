use Rattle.std.proofs.Common.{◌+◌, length}
use Rattle.merge_core.proofs.HitLemmas.{IsJoining}
use Rattle.merge_core.proofs.join.merge_join_into.Given as goal

abbrev pub invariant-loop-x : goal.invariant-loop-x
invariant-loop-x g l =
    IsJoining g.T.FromHit.from_hit l.fn.left l.fn.right l.left l.right l.fn.found.items l.found.items l.advances

abbrev pub decreases-loop-x : goal.decreases-loop-x
decreases-loop-x g l = length l.left + length l.right
