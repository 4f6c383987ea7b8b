-- The number and the ids already visited are printed.
use Rattle.std.proofs.Common.{◌≡◌, ◌++◌, take}
use Rattle.csv.specs.Writing.{row_body}
use Rattle.answer_core.specs.PrintedRecords.{part_record}
use Rattle.answer_core.specs.RecordBytes.{answer_writer}
use Rattle.answer_core.proofs.record_text.RecordText.part.Given as goal

abbrev pub invariant-loop-item : goal.invariant-loop-item
invariant-loop-item l = record {
  same : l.item-items ≡ l.part.items.now;
  fields : l.self ≡ l.fn.self ++ row_body answer_writer (part_record l.number (take l.item-index l.item-items));
}
