-- The rows are the rows of the records that the iterator has returned.
use Rattle.std.proofs.Common.{◌≡◌, ◌+◌, length}
use Rattle.command_core.specs.Lines.{lines_in}
use Rattle.script_core.specs.Effects.{loaded_rows}
use Rattle.script_core.proofs.Loading.{behind}
use Rattle.script_core.proofs.rows.rows_of_records.Given as goal

abbrev pub invariant-loop-place : goal.invariant-loop-place
invariant-loop-place l =
    (l.place + length l.line-iterator ≡ length (lines_in l.lines))
    × (l.reader.columns ≡ l.schema)
    × (loaded_rows l.schema l.number (lines_in l.lines) ≡ behind l.reader.rows
    (loaded_rows l.schema (l.number + l.place) l.line-iterator))
