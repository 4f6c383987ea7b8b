use Rattle.std.proofs.Common.{rules, ◌∙◌, ◌+◌, ◌≤◌, ◌++◌, [], arith, ap, sym, length, get_or, drop}
use Rattle.std.proofs.lemmas.Result.{err_from_is_err_and}
use Rattle.row_core.specs.Reading.{values_of}
use Rattle.row_core.specs.Refusals.{map_ok}
use Rattle.row_core.specs.Value.{value_of}
use Rattle.row_core.proofs.ReadingLemmas.{append-none, field-at, field-there, values_of-failed, values_of-none, values_of-push}
use Rattle.row_core.proofs.reading.read_values.Goals as goal

pub loop-i-init : goal.loop-i-init
loop-i-init g c =
    append-none c.in_ok-values.values.items (values_of c.args.columns.now (drop 2 (g.L.Fields.fields c.args.fields)))
    (search rules)

pub returns-in_err-read-clause-err : goal.returns-in_err-read-clause-err
returns-in_err-read-clause-err g c =
    let all = g.L.Fields.fields c.args.fields in
    let i = c.loop-i.i in
    let p = err_from_is_err_and c.from_residual-in_err-read.result c.from_residual-in_err-read.ensures.1 in
    let inside = field-there all i _ c.loop-i-test.true c.requires in
    rw (p.1, p.2)
    (values_of-failed c.args.columns.now (drop 2 all) i c.loop-i.values.items c.index-columns-i.result []
    c.field.result.now _ c.loop-i-test.true inside (field-at all i c.field.result.now c.field.ensures)
    c.in_err-read.ensures c.loop-i.invariant)

pub loop-i-preserved : goal.loop-i-preserved
loop-i-preserved g c =
    let all = g.L.Fields.fields c.args.fields in
    let i = c.loop-i.i in
    let column = c.index-columns-i.result in
    let kind = (get_or c.args.columns.now i column).kind in
    let same = ap (value_of kind) (field-at all i c.field.result.now c.field.ensures) in
    let inside = field-there all i _ c.loop-i-test.true c.requires in
    values_of-push c.args.columns.now (drop 2 all) i c.loop-i.values.items column [] c.in_ok-read.field-0
    c.loop-i-test.true inside (same ∙ c.in_ok-read.ensures) c.loop-i.invariant
    ∙ ap (λ done. map_ok (λ rest. done ++ rest)
    (values_of (drop (i + 1) c.args.columns.now) (drop (i + 1) (drop 2 all)))) (sym c.in_ok-push.ensures.items)

pub returns-clause-ok : goal.returns-clause-ok
returns-clause-ok g c =
    let all : length c.args.columns.now ≤ c.loop-i.i = omega (arith, c.loop-i-test.false) in
    values_of-none c.args.columns.now (drop 2 (g.L.Fields.fields c.args.fields)) c.loop-i.i c.loop-i.values.items all
    c.loop-i.invariant
