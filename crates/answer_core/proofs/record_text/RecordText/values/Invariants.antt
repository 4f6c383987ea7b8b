-- The values already visited are printed.
use Rattle.std.proofs.Common.{◌≡◌, ◌++◌, map, take}
use Rattle.csv.specs.Writing.{fields_text}
use Rattle.table_core.specs.Lent.{lent_row}
use Rattle.answer_core.specs.PrintedRecords.{value_text}
use Rattle.answer_core.specs.RecordBytes.{answer_writer}
use Rattle.answer_core.proofs.record_text.RecordText.values.Given as goal

abbrev pub invariant-loop-column : goal.invariant-loop-column
invariant-loop-column l =
    l.self ≡ l.fn.self ++ fields_text answer_writer (map value_text (take l.column (lent_row l.row).values))
