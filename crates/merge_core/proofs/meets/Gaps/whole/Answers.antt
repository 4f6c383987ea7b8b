use Rattle.merge_core.proofs.MeetLemmas.{whole_listed, whole_apart}
use Rattle.merge_core.proofs.meets.Gaps.whole.Goals as goal

pub invariant_of-result : goal.invariant_of-result
invariant_of-result c =
    whole_apart c.args.part.items.now _ c.args.part.chained (rw c.items.ensures at c.in_ok-gaps.ensures)

pub returns : goal.returns
returns c = whole_listed c.args.part.items.now _ c.args.part.chained (rw c.items.ensures at c.in_ok-gaps.ensures)
