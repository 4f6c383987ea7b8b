use Rattle.std.proofs.Common.{◌≤◌, ◌<◌, ◌+◌, ◌-◌, ◌/◌, arith}
use Rattle.table_core.specs.Lent.{lent_row}
use Rattle.answer_core.proofs.FoundRows.{between_all, between_earlier, between_later, place_met}
use Rattle.answer_core.proofs.rows_by_id.place_by_halves.Goals as goal

pub loop-low-init : goal.loop-low-init
loop-low-init c = between_all c.args.rows.now c.args.id c.len-high.result c.len-high.ensures

pub loop-low-preserved-then-id : goal.loop-low-preserved-then-id
loop-low-preserved-then-id c =
    let low = c.loop-low.low in
    let high = c.loop-low.high in
    let before : low + (high - low) / 2 < high = omega (arith, c.loop-low-test.true) in
    let row = lent_row c.at.result in
    let less : row.id < c.args.id = omega (arith, c.id.ensures, c.if-id.true) in
    between_later c.args.rows.now c.args.id low high (low + (high - low) / 2) row c.requires before c.at.ensures less
    c.loop-low.invariant

pub loop-low-preserved : goal.loop-low-preserved
loop-low-preserved c =
    let low = c.loop-low.low in
    let high = c.loop-low.high in
    let from : low ≤ low + (high - low) / 2 = omega arith in
    let before : low + (high - low) / 2 < high = omega (arith, c.loop-low-test.true) in
    let row = lent_row c.at.result in
    let more : c.args.id ≤ row.id = omega (arith, c.id.ensures, c.if-id.false) in
    between_earlier c.args.rows.now c.args.id low high (low + (high - low) / 2) row c.requires from before c.at.ensures
    more c.loop-low.invariant

pub returns : goal.returns
returns c = place_met c.args.rows.now c.args.id c.loop-low.low c.loop-low.high c.requires c.loop-low-test.false
    c.loop-low.invariant
