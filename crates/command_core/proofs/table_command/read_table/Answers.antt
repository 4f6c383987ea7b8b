use Rattle.std.proofs.Common.{◌∙◌, ap, subst, sym}
use Rattle.row_core.specs.Refusals.{Reads}
use Rattle.command_core.specs.Command.{meaning_of}
use Rattle.command_core.specs.Lines.{fields_in}
use Rattle.command_core.specs.Meaning.{name_table, table_form}
use Rattle.command_core.proofs.NamedColumns.{table_meaning-named}
use Rattle.command_core.proofs.Cutting.{rest-from}
use Rattle.command_core.proofs.table_command.read_table.Goals as goal

pub returns : goal.returns
returns c =
    let fields = fields_in c.args.line in
    let table = c.in-Some.table.now in
    let rest = rest-from fields (fields_in c.range.result) c.len.result 2 c.len.ensures c.range.ensures in
    let form = rw c.in-Some-2.is at c.in_ok-raw.ensures in
    let same =
    ap (name_table table) (form ∙ ap table_form rest) ∙ sym (table_meaning-named fields table (sym c.in-Some.ensures))
    in
    subst (λ meant. Reads meaning_of meant c.name_table.result) same c.name_table.ensures
