use Rattle.std.proofs.Common.{◌≡◌, [], All, arith, length, subst, take, take_all}
use Rattle.std.proofs.lemmas.List.{nil_from_length}
use Rattle.std.proofs.lemmas.List.Elements.{All-push}
use Rattle.row_core.specs.declared.row.Row.{Row}
use Rattle.table_core.specs.Lent.{lent_row}
use Rattle.table_core.proofs.PlaceLemmas.{take-one_more}
use Rattle.answer_core.proofs.row_values.are_bare.Goals as goal

pub loop-place-preserved : goal.loop-place-preserved
loop-place-preserved c =
    let rows = c.args.rows.now in
    let row = lent_row c.at.result in
    let none : length row.values ≡ 0 = omega (arith, c.if-width-gt0.false, c.width.ensures) in
    subst (All (λ (r : Row). r.values ≡ [])) (take-one_more rows c.loop-place.place row c.at.ensures)
    (All-push (λ (r : Row). r.values ≡ []) (take c.loop-place.place rows) row c.loop-place.invariant
    (nil_from_length row.values none))

pub returns : goal.returns
returns c =
    let all = take_all c.loop-place.place c.args.rows.now (omega (arith, c.loop-place-test.false, c.len-place-end.ensures)) in
    λ is. subst (All (λ (r : Row). r.values ≡ [])) all c.loop-place.invariant
