use Rattle.std.proofs.Common.{◌∙◌, ◌++◌, ◌∷◌, [], ap}
use Rattle.table_core.proofs.PlaceLemmas.{take-one_more}
use Rattle.table_core.specs.Lent.{lent_row}
use Rattle.table_core.proofs.shared_rows.SharedRows.list.Goals as goal

pub loop-i-preserved : goal.loop-i-preserved
loop-i-preserved c =
    c.in_ok-push.ensures.items ∙ ap (λ row. c.loop-i.list.items ++ row ∷ []) c.in_ok-copy.ensures
    ∙ ap (λ rows. rows ++ lent_row c.at.result ∷ []) c.loop-i.invariant
    ∙ take-one_more c.args.self.now c.loop-i.i (lent_row c.at.result) c.at.ensures
