-- The fields before the rest gave these columns.
use Rattle.std.proofs.Common.{◌≡◌, length}
use Rattle.command_core.specs.Lines.{fields_in}
use Rattle.command_core.specs.Meaning.{table_form}
use Rattle.command_core.specs.TableCommand.{raw_of}
use Rattle.command_core.proofs.TableLemmas.{form_behind}
use Rattle.command_core.proofs.table_command.raw_table.Given as goal

abbrev pub invariant-loop-rest : goal.invariant-loop-rest
invariant-loop-rest l =
    table_form (fields_in l.fields) ≡ form_behind (raw_of l.columns.items) (table_form (fields_in l.rest))

abbrev pub decreases-loop-rest : goal.decreases-loop-rest
decreases-loop-rest l = length (fields_in l.rest)
