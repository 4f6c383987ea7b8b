use Rattle.std.proofs.Common.{◌∙◌, ap, sym, length}
use Rattle.std.specs.Arc.{arc_value}
use Rattle.table_core.specs.Source.{rows_from}
use Rattle.table_core.proofs.NumberedLemmas.{length-numbered}
use Rattle.table_core.proofs.source.Source.len.Goals as goal

pub returns-in-Numbered : goal.returns-in-Numbered
returns-in-Numbered c =
    c.len.ensures ∙ ap length c.deref.ensures ∙ sym (length-numbered 0 (arc_value c.in-Numbered.drafts))
    ∙ ap (λ source. length (rows_from source)) (sym c.in-Numbered.is)
