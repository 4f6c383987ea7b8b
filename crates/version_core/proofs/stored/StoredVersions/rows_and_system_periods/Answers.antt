use Rattle.std.proofs.Common.{◌∙◌, ap, sym, length}
use Rattle.table_core.proofs.NumberedLemmas.{length-numbered}
use Rattle.version_core.proofs.StoredLemmas.{length-versions_of}
use Rattle.version_core.proofs.stored.StoredVersions.rows_and_system_periods.Goals as goal

pub returns-clause-rows : goal.returns-clause-rows
returns-clause-rows c =
    sym (length-numbered 0 c.drafts.result.now) ∙ ap length c.drafts.ensures ∙ c.self.invariant
    ∙ sym (length-versions_of c.self.inside.rows c.self.inside.system_periods.items c.self.invariant)
    ∙ ap length c.self.view_is

pub returns-clause-system_periods : goal.returns-clause-system_periods
returns-clause-system_periods c =
    ap length c.deref.ensures.value
    ∙ sym (length-versions_of c.self.inside.rows c.self.inside.system_periods.items c.self.invariant)
    ∙ ap length c.self.view_is
