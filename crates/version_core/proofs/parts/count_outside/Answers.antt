use Rattle.std.proofs.Common.{◌∙◌, ap, cond}
use Rattle.std.specs.Prelude.{is_some}
use Rattle.period_core.specs.Period.{after as later, before}
use Rattle.table_core.specs.Lent.{lent_row}
use Rattle.version_core.proofs.PartLemmas.{length-two_parts}
use Rattle.version_core.proofs.parts.count_outside.Goals as goal

pub returns-clause-parts : goal.returns-clause-parts
returns-clause-parts c =
    length-two_parts _ _ (lent_row c.args.row).values (lent_row c.args.row).values _ _
    (c.one_if.ensures ∙ ap (λ o. cond (is_some o) 1 0) (c.minus-before.ensures.before_ends
    ∙ ap (λ p. before p c.args.portion.now) c.period.ensures))
    (c.one_if-2.ensures ∙ ap (λ o. cond (is_some o) 1 0) (c.minus-before.ensures.after_ends
    ∙ ap (λ p. later p c.args.portion.now) c.period.ensures))
