use Rattle.std.proofs.Common.{◌∙◌, ap, arith, length, map, sym}
use Rattle.std.specs.List.{list_all}
use Rattle.draft_core.specs.Columns.{AlikeRows, kind_of_column, kinds_fit, values_of_column}
use Rattle.row_core.specs.Schema.{fits}
use Rattle.row_core.specs.declared.draft.Draft.{Draft}
use Rattle.draft_core.proofs.ColumnLemmas.{length-rows}
use Rattle.draft_core.proofs.KindLemmas.{not-zero, rows-fit}
use Rattle.draft_core.proofs.columns.Columns.all_fit.Goals as goal

pub returns-else-is_empty : goal.returns-else-is_empty
returns-else-is_empty c =
    let ps = c.self.inside.periods.items in
    let columns = c.self.inside.values.items in
    let schema = c.args.schema.now in
    let rows = length-rows 0 ps (map values_of_column columns) in
    let size = ap (λ (a : AlikeRows). length a.rows) c.self.view_is in
    let some = not-zero (length c.args.self.now.rows) (sym c.is_empty.ensures ∙ c.if-is_empty.false) in
    c.kinds_fit.ensures
    ∙ ap (λ l. kinds_fit l (map kind_of_column c.deref.result.now)) c.as_slice.ensures.columns
    ∙ ap (λ l. kinds_fit schema (map kind_of_column l)) c.deref.ensures.value
    ∙ sym (rows-fit (length ps) 0 ps schema columns c.self.invariant (omega arith) (omega (arith, rows, size, some)))
    ∙ ap (λ (a : AlikeRows). list_all {X = Draft} (λ d. fits schema d.values) a.rows) c.self.view_is
