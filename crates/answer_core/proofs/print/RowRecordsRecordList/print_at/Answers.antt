use Rattle.std.proofs.Common.{◌≡◌, ◌++◌, OnOk, arith, subst, sym}
use Rattle.std.proofs.lemmas.List.{length-map}
use Rattle.csv.specs.Writing.{row_text}
use Rattle.table_core.specs.Lent.{lent_row}
use Rattle.answer_core.specs.PrintedRecords.{row_record}
use Rattle.answer_core.specs.RecordBytes.{answer_writer}
use Rattle.answer_core.proofs.Printing.{record_at-map}
use Rattle.answer_core.proofs.print.RowRecordsRecordList.print_at.Goals as goal

pub at-requires : goal.at-requires
at-requires c = omega (arith, c.requires, length-map c.args.self.now.rows.now row_record)

pub returns : goal.returns
returns c =
    subst (λ line. OnOk c.row.result (c.row.new.self ≡ c.args.text.now ++ row_text answer_writer line))
    (sym (record_at-map row_record c.args.self.now.rows.now c.args.index (lent_row c.at.result) c.at.ensures)) c.row.ensures
