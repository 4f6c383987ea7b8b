use Rattle.std.proofs.Common.{◌∙◌, [], ap, sym, drop, get_or}
use Rattle.std.specs.Result.{result_err}
use Rattle.std.proofs.lemmas.Result.{err_from_is_err_and}
use Rattle.row_core.specs.Value.{value_of}
use Rattle.row_core.proofs.ReadingLemmas.{field-at, field-there, result_err-next, result_err-here}
use Rattle.row_core.proofs.reading.check_values.Goals as goal

pub returns-in_err-check : goal.returns-in_err-check
returns-in_err-check g c =
    let all = g.L.Fields.fields c.args.fields in
    let column = c.index-columns-i.result in
    let i = c.loop-i.i in
    let p = err_from_is_err_and c.from_residual.result c.from_residual.ensures.1 in
    let kind = (get_or c.args.columns.now i column).kind in
    let same = ap (value_of kind) (field-at all i c.field.result.now c.field.ensures) in
    let inside = field-there all i _ c.loop-i-test.true c.requires in
    rw (p.1, p.2)
    (sym (c.loop-i.invariant
    ∙ result_err-here c.args.columns.now (drop 2 all) i column [] _ c.loop-i-test.true inside
    (c.in_err-check.ensures ∙ ap result_err (sym same))))

pub loop-i-preserved : goal.loop-i-preserved
loop-i-preserved g c =
    let all = g.L.Fields.fields c.args.fields in
    let column = c.index-columns-i.result in
    let i = c.loop-i.i in
    let kind = (get_or c.args.columns.now i column).kind in
    let same = ap (value_of kind) (field-at all i c.field.result.now c.field.ensures) in
    let inside = field-there all i _ c.loop-i-test.true c.requires in
    c.loop-i.invariant
    ∙ result_err-next c.args.columns.now (drop 2 all) i column [] c.loop-i-test.true inside
    (c.in_ok-check.ensures ∙ ap result_err (sym same))
