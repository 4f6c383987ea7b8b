use Rattle.std.proofs.Common.{◌≤◌, ap, sym, get_or, arith}
use Rattle.std.proofs.lemmas.Option.{get_or_from_slice_get}
use Rattle.row_core.specs.declared.row.Row.{Row}
use Rattle.table_core.specs.Lent.{lent_row}
use Rattle.answer_core.proofs.FoundRows.{first_low}
use Rattle.answer_core.proofs.rows_by_id.first_id.Goals as goal

pub returns : goal.returns
returns c = λ k d lt.
    let rows = c.args.rows.now in
    let row = lent_row c.at.result in
    let here = get_or_from_slice_get rows 0 row row c.at.ensures in
    let low : (get_or rows 0 row).id ≤ (get_or rows k d).id =
    first_low rows k row d c.requires (omega (arith, lt)) (sym here) lt in
    let same = ap (λ (r : Row). r.id) here in
    let known = c.id.ensures in
    omega (arith, low, same, known)
