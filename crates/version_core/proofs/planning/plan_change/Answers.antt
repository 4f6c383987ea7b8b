use Rattle.std.proofs.Common.{◌∙◌, subst, sym}
use Rattle.version_core.specs.OpenVersions.{current}
use Rattle.version_core.specs.Plans.{IsPlanOf}
use Rattle.version_core.specs.declared.change.RowsChange.{RowsChange}
use Rattle.version_core.proofs.OpenLemmas.{no-parts, none-taken}
use Rattle.version_core.proofs.planning.plan_change.Goals as goal

pub returns-in-Load : goal.returns-in-Load
returns-in-Load c =
    subst (λ (change : RowsChange). IsPlanOf change c.args.versions.now c.empty.result) (sym c.in-Load.is)
    (record {
      parts = c.empty.ensures.parts ∙ sym (no-parts c.in-Load.field-0 (current c.args.versions.now));
      taken = c.empty.ensures.taken ∙ sym (none-taken 0 c.args.versions.now);
    })
