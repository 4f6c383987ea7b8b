use Rattle.std.proofs.Common.{◌≤◌, ◌∙◌, ap, arith, drop, length, sym}
use Rattle.command_core.specs.Lines.{fields_in}
use Rattle.command_core.specs.Meaning.{table_form}
use Rattle.command_core.specs.TableCommand.{raw_column, raw_of}
use Rattle.command_core.proofs.Cutting.{rest-from}
use Rattle.command_core.proofs.TableLemmas.{column-here, form_behind, raw_of-push}
use Rattle.command_core.proofs.table_command.raw_table.Goals as goal

pub loop-rest-preserved : goal.loop-rest-preserved
loop-rest-preserved c =
    let rest = fields_in c.loop-rest.rest in
    let columns = c.loop-rest.columns.items in
    let two : 2 ≤ length rest = omega (arith, c.loop-rest-test.true, c.len.ensures) in
    let left =
    rest-from rest (fields_in c.range-rest.result) c.len-in-loop-rest.result 2 c.len-in-loop-rest.ensures
    c.range-rest.ensures
    in
    c.loop-rest.invariant
    ∙ column-here rest (raw_of columns) (raw_column c.in-Some.column) two (sym c.begins.ensures ∙ c.if-begins.false)
    (sym c.in-Some.ensures)
    ∙ ap (λ l. form_behind l (table_form (drop 2 rest)))
    (sym (raw_of-push columns c.push.new.self.items c.in-Some.column c.in_ok-push.ensures.items))
    ∙ ap (λ l. form_behind (raw_of c.push.new.self.items) (table_form l)) (sym left)
