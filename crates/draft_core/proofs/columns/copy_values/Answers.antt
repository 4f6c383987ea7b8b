use Rattle.std.proofs.Common.{◌∙◌, ◌++◌, ◌∷◌, [], ap, map, sym, take}
use Rattle.std.proofs.lemmas.List.{take_more}
use Rattle.draft_core.specs.Columns.{values_at, values_of_column}
use Rattle.draft_core.proofs.ColumnLemmas.{values_at-more}
use Rattle.draft_core.proofs.columns.copy_values.Goals as goal

pub loop-column-preserved : goal.loop-column-preserved
loop-column-preserved c =
    let columns = c.args.columns.now in
    let i = c.loop-column.column-index in
    c.in_ok-push.ensures.items
    ∙ ap (λ l. l ++ c.in_ok-copy_at.field-0 ∷ []) c.loop-column.invariant
    ∙ sym (ap (λ l. values_at (map values_of_column l) c.args.place)
    (take_more columns i c.column-item.result c.loop-column-test.true
    ∙ ap (λ x. take i columns ++ x ∷ []) (sym c.column-item.is))
    ∙ values_at-more c.args.place (take i columns) c.column-item.result c.in_ok-copy_at.field-0
    c.in_ok-copy_at.ensures)
