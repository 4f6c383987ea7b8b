use Rattle.std.proofs.Common.{length}
use Rattle.merge_core.proofs.GapLemmas.{IsGapped}
use Rattle.merge_core.proofs.gaps.merge_gaps.Given as goal

abbrev pub invariant-loop-x : goal.invariant-loop-x
invariant-loop-x l = IsGapped l.fn.left l.fn.right l.left l.right l.fn.gaps.items l.gaps.items l.advances

abbrev pub decreases-loop-x : goal.decreases-loop-x
decreases-loop-x l = length l.left
