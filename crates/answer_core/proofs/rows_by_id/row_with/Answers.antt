use Rattle.std.proofs.Common.{◌≡◌, ◌<◌, length, get_or, sym, ap, ◌∙◌, arith}
use Rattle.std.proofs.lemmas.Option.{get_or_from_slice_get}
use Rattle.row_core.specs.declared.row.Row.{Row}
use Rattle.table_core.specs.Lent.{lent_row}
use Rattle.answer_core.proofs.FoundRows.{find_at_place, find_nowhere}
use Rattle.answer_core.proofs.rows_by_id.row_with.Goals as goal

pub returns-then-place-len : goal.returns-then-place-len
returns-then-place-len c = find_nowhere c.args.rows.now c.args.id
    (λ k d lt same.
    let place = c.place_of-place.ensures k d lt same in
    omega (arith, place, lt, c.if-place-len.true, c.len.ensures))

pub returns-then-id : goal.returns-then-id
returns-then-id c =
    let rows = c.args.rows.now in
    let place = c.place_of-place.result in
    let row = lent_row c.at-row.result in
    let inside : place < length rows = omega (arith, c.if-place-len.false, c.len.ensures) in
    find_at_place rows place c.args.id row c.requires.rise inside
    (sym (get_or_from_slice_get rows place row row c.at-row.ensures)) (sym c.id.ensures ∙ c.if-id.true)

pub returns-else-id : goal.returns-else-id
returns-else-id c = find_nowhere c.args.rows.now c.args.id
    (λ k d lt same.
    let rows = c.args.rows.now in
    let at = c.place_of-place.result in
    let row = lent_row c.at-row.result in
    let place = c.place_of-place.ensures k d lt same in
    let there : get_or rows at d ≡ row = get_or_from_slice_get rows at row d c.at-row.ensures in
    c.if-id.false
    (c.id.ensures ∙ ap (λ (r : Row). r.id) (sym there) ∙ ap (λ n. (get_or rows n d).id) place ∙ same))
