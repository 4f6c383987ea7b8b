use Rattle.std.proofs.Common.{◌≤◌, arith, length, sym}
use Rattle.command_core.specs.Lines.{fields_in}
use Rattle.command_core.proofs.Cutting.{rest-from}
use Rattle.script_core.proofs.RowLemmas.{begun, read-failed, read-more}
use Rattle.script_core.proofs.rows.read_next.Goals as goal

pub range-requires-clause-ordered : goal.range-requires-clause-ordered
range-requires-clause-ordered c =
    let some : 1 ≤ length (fields_in c.args.line) = begun _ (fields_in c.args.line) (sym c.if-not-begins.ensures) in
    omega (arith, some, c.len.ensures)

pub returns-in-Ok : goal.returns-in-Ok
returns-in-Ok c =
    let line = fields_in c.args.line in
    let fields = fields_in c.range.result in
    read-more c.args.reader c.in-Ok.more line fields (sym c.if-not-begins.ensures)
    (rest-from line fields c.len.result 1 c.len.ensures c.range.ensures) c.in-Ok.ensures

pub returns-in-Err : goal.returns-in-Err
returns-in-Err c =
    let line = fields_in c.args.line in
    let fields = fields_in c.range.result in
    rw c.failure_at.ensures
    (read-failed c.args.number c.args.reader line fields c.in-Err.why (sym c.if-not-begins.ensures)
    (rest-from line fields c.len.result 1 c.len.ensures c.range.ensures) c.in-Err.ensures)
