use Rattle.std.proofs.Common.{◌+◌, length}
use Rattle.merge_core.proofs.MeetLemmas.{IsMeeting}
use Rattle.merge_core.proofs.meets.meets_of.Given as goal

abbrev pub invariant-loop-x : goal.invariant-loop-x
invariant-loop-x l = IsMeeting l.one l.other l.lefts l.rights l.gaps.items

abbrev pub decreases-loop-x : goal.decreases-loop-x
decreases-loop-x l = length l.lefts + length l.rights
