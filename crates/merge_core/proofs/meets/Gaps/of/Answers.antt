use Rattle.merge_core.proofs.MeetLemmas.{AreGapsApart-added, ListsGaps-added}
use Rattle.merge_core.proofs.meets.Gaps.of.Goals as goal

pub invariant_of-result : goal.invariant_of-result
invariant_of-result c =
    AreGapsApart-added c.args.left c.args.right _ _ c.len.ensures.chain c.new-gaps.ensures.items
    c.in_ok-merge_gaps.ensures.gaps

pub returns-clause-gaps : goal.returns-clause-gaps
returns-clause-gaps c =
    ListsGaps-added c.args.left c.args.right _ _ c.new-gaps.ensures.items c.in_ok-merge_gaps.ensures.gaps
