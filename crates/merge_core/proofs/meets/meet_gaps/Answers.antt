use Rattle.std.proofs.Common.{sym, subst, ◌∙◌}
use Rattle.list_core.specs.Wanted.{IsListOf}
use Rattle.merge_core.specs.Gaps.{GapStartsBefore}
use Rattle.merge_core.specs.Meets.{IsMeet, AreGapsApart}
use Rattle.merge_core.proofs.MeetLemmas.{AreGapsApart-meets}
use Rattle.merge_core.proofs.BothLemmas.{ListsGaps-append}
use Rattle.merge_core.proofs.meets.meet_gaps.Goals as goal

pub invariant_of-result : goal.invariant_of-result
invariant_of-result c =
    AreGapsApart-meets _ _ _ (subst AreGapsApart (sym c.deref.ensures.value) c.one.invariant)
    (subst AreGapsApart (sym c.deref-2.ensures.value) c.other.invariant) c.in_ok-gaps.ensures

pub returns-clause-both : goal.returns-clause-both
returns-clause-both c left right more tell one other =
    ListsGaps-append left right more tell c.args.one.now c.args.other.now c.in_ok-gaps.gaps.items one other
    (subst (λ v. IsListOf GapStartsBefore (IsMeet v c.args.other.now) c.in_ok-gaps.gaps.items)
    (c.deref.ensures.value ∙ c.one.view_is)
    (subst (λ v. IsListOf GapStartsBefore (IsMeet c.deref.result.now v) c.in_ok-gaps.gaps.items)
    (c.deref-2.ensures.value ∙ c.other.view_is) c.in_ok-gaps.ensures))
