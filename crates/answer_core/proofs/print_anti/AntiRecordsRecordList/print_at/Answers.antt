use Rattle.std.proofs.Common.{◌≡◌, ◌++◌, OnOk, arith, subst, sym}
use Rattle.std.proofs.lemmas.List.{length-map}
use Rattle.csv.specs.Writing.{row_text}
use Rattle.answer_core.specs.PrintedRecords.{anti_record}
use Rattle.answer_core.specs.RecordBytes.{answer_writer}
use Rattle.answer_core.proofs.Printing.{record_at-read}
use Rattle.answer_core.proofs.print_anti.AntiRecordsRecordList.print_at.Goals as goal

pub bounds-self-index : goal.bounds-self-index
bounds-self-index c = omega (arith, c.requires, length-map c.args.self.now.rows.now (anti_record c.args.self.now.left.now))

pub returns : goal.returns
returns c =
    subst (λ line. OnOk c.anti_row.result (c.anti_row.new.self ≡ c.args.text.now ++ row_text answer_writer line))
    (sym (record_at-read (anti_record c.args.self.now.left.now) c.args.self.now.rows.now c.args.index c.index-self-index.result c.requires))
    c.anti_row.ensures
