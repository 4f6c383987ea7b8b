use Rattle.std.proofs.Common.{◌≡◌, ◌∙◌, false, subst, sym}
use Rattle.version_core.specs.Keys.{overlap_after}
use Rattle.version_core.specs.OpenVersions.{current}
use Rattle.version_core.specs.declared.change.RowsChange.{RowsChange}
use Rattle.version_core.proofs.Unbroken.{delete-unbroken, update-unbroken}
use Rattle.version_core.proofs.keys.may_overlap.Goals as goal

pub returns-in-Some-clause-never : goal.returns-in-Some-clause-never
returns-in-Some-clause-never c = λ no versions whole.
    subst (λ (change : RowsChange). overlap_after change c.args.key.now versions ≡ false) (sym c.in-Portion.is)
    (update-unbroken c.in-Portion.change c.in-Some.sets c.args.key.now (current versions) c.in-Some.is
    (sym c.any_set.ensures ∙ no) whole)

pub returns-in-None-clause-never : goal.returns-in-None-clause-never
returns-in-None-clause-never c = λ no versions whole.
    subst (λ (change : RowsChange). overlap_after change c.args.key.now versions ≡ false) (sym c.in-Portion.is)
    (delete-unbroken c.in-Portion.change c.args.key.now (current versions) c.in-None.is whole)
