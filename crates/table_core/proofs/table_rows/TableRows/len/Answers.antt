use Rattle.std.proofs.Common.{◌∙◌, ap, sym, length}
use Rattle.std.specs.Arc.{arc_value}
use Rattle.table_core.proofs.NumberedLemmas.{length-numbered}
use Rattle.table_core.proofs.table_rows.TableRows.len.Goals as goal

pub returns : goal.returns
returns c =
    c.len.ensures ∙ ap length c.deref.ensures ∙ sym (length-numbered 0 (arc_value c.self.inside.drafts))
    ∙ ap length c.self.view_is
