use Rattle.std.proofs.Common.{◌∙◌, ap}
use Rattle.period_core.specs.Period.{after as later, before}
use Rattle.row_core.specs.declared.draft.Draft.{Draft}
use Rattle.table_core.specs.Lent.{lent_row}
use Rattle.version_core.specs.Portion.{part}
use Rattle.version_core.proofs.PartLemmas.{part-added, two-added}
use Rattle.version_core.proofs.parts.push_outside.Goals as goal

pub returns : goal.returns
returns c =
    let row = lent_row c.args.row in
    let portion = c.args.portion.now in
    let old = c.args.new.now in
    let one = c.push_part.new.new in
    let two = c.push_part-2.new.new in
    let values = c.in_ok-values.ensures ∙ ap (λ (d : Draft). d.values) c.draft.ensures in
    two-added old one two (part (before row.period portion) row.values) (part (later row.period portion) row.values)
    (part-added old one _ _ c.deref.result.now row.values c.in_ok-push_part.ensures
    (c.minus-before.ensures.before_ends ∙ ap (λ p. before p portion) c.period-period.ensures)
    (c.deref.ensures.value ∙ values))
    (part-added one two _ _ c.deref-2.result.now row.values c.in_ok-push_part-2.ensures
    (c.minus-before.ensures.after_ends ∙ ap (λ p. later p portion) c.period-period.ensures)
    (c.deref-2.ensures.value ∙ values))
