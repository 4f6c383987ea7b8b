use Rattle.std.proofs.Common.{◌∙◌, ◌++◌, ap}
use Rattle.period_core.specs.Period.{after as later, before, meet}
use Rattle.row_core.specs.declared.draft.Draft.{Draft}
use Rattle.table_core.specs.Lent.{lent_row}
use Rattle.version_core.specs.Portion.{part}
use Rattle.version_core.specs.Wanted.{with_set}
use Rattle.version_core.proofs.PartLemmas.{part-added, two-added}
use Rattle.version_core.proofs.parts.push_changed.Goals as goal

pub returns : goal.returns
returns c =
    let row = lent_row c.args.row in
    let portion = c.args.portion.now in
    let set = with_set c.args.sets.now row.values in
    let old = c.args.new.now in
    let one = c.push_part.new.new in
    let two = c.push_part-2.new.new in
    let three = c.push_part-3.new.new in
    let inside = part (meet row.period portion) set in
    let after = part (later row.period portion) row.values in
    let values = c.in_ok-values.ensures ∙ ap (λ (d : Draft). d.values) c.draft.ensures in
    two-added old one three (part (before row.period portion) row.values) (inside ++ after)
    (part-added old one _ _ c.deref-2.result.now row.values c.in_ok-push_part.ensures
    (c.minus-earlier.ensures.before_ends ∙ ap (λ p. before p portion) c.period-period.ensures)
    (c.deref-2.ensures.value ∙ values))
    (two-added one two three inside after
    (part-added one two _ _ c.deref-3.result.now set c.in_ok-push_part-2.ensures
    (c.meet.ensures.ends ∙ ap (λ p. meet p portion) c.period-period.ensures)
    (c.deref-3.ensures.value ∙ c.in_ok-changed.ensures
    ∙ ap (with_set c.args.sets.now) (c.deref.ensures.value ∙ values)))
    (part-added two three _ _ c.deref-4.result.now row.values c.in_ok-push_part-3.ensures
    (c.minus-earlier.ensures.after_ends ∙ ap (λ p. later p portion) c.period-period.ensures)
    (c.deref-4.ensures.value ∙ values)))
