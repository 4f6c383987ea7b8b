use Rattle.std.proofs.Common.{length}
use Rattle.merge_core.proofs.GapLemmas.{IsSwept}
use Rattle.merge_core.proofs.gaps.gaps_of.Given as goal

abbrev pub invariant-loop-y : goal.invariant-loop-y
invariant-loop-y l = IsSwept l.x l.initial.right l.right l.at l.initial.gaps.items l.gaps.items l.passed

abbrev pub decreases-loop-y : goal.decreases-loop-y
decreases-loop-y l = length l.right
