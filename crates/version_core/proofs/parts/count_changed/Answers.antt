use Rattle.std.proofs.Common.{◌∙◌, ap, cond}
use Rattle.std.specs.Prelude.{is_some}
use Rattle.period_core.specs.Period.{after as later, before, meet}
use Rattle.table_core.specs.Lent.{lent_row}
use Rattle.version_core.specs.Wanted.{with_set}
use Rattle.version_core.proofs.PartLemmas.{length-three_parts}
use Rattle.version_core.proofs.parts.count_changed.Goals as goal

pub returns-clause-parts : goal.returns-clause-parts
returns-clause-parts c =
    λ sets. length-three_parts _ _ _ (lent_row c.args.row).values
    (with_set sets (lent_row c.args.row).values) (lent_row c.args.row).values _ _ _
    (c.one_if.ensures ∙ ap (λ o. cond (is_some o) 1 0) (c.minus-before.ensures.before_ends
    ∙ ap (λ p. before p c.args.portion.now) c.period-period.ensures))
    (c.one_if-2.ensures ∙ ap (λ o. cond (is_some o) 1 0) (c.meet.ensures.ends
    ∙ ap (λ p. meet p c.args.portion.now) c.period-period.ensures))
    (c.one_if-3.ensures ∙ ap (λ o. cond (is_some o) 1 0) (c.minus-before.ensures.after_ends
    ∙ ap (λ p. later p c.args.portion.now) c.period-period.ensures))
