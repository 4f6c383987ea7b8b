use Rattle.std.proofs.Common.{◌∙◌, ◌<◌, ap, arith, length, sym}
use Rattle.std.proofs.lemmas.Option.{get_or_from_slice_get}
use Rattle.row_core.specs.declared.row.Row.{Row}
use Rattle.table_core.specs.Lent.{lent_row}
use Rattle.answer_core.proofs.FoundRows.{one_place}
use Rattle.answer_core.proofs.rows_by_id.place_of.Goals as goal

pub returns-then-id : goal.returns-then-id
returns-then-id c k d lt same =
    let rows = c.args.rows.now in
    let at = c.saturating_sub-at.result in
    let inside : at < length rows = omega (arith, c.if-at-len.true, c.len.ensures) in
    let here = ap (λ (r : Row). r.id) (get_or_from_slice_get rows at (lent_row c.at.result) d c.at.ensures) in
    one_place rows c.requires.rise at k d inside lt (here ∙ sym c.id.ensures ∙ c.if-id.true ∙ sym same)
