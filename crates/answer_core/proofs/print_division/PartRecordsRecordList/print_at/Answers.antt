use Rattle.std.proofs.Common.{◌≡◌, ◌<◌, ◌++◌, ◌∙◌, OnOk, ap, arith, length, subst, sym}
use Rattle.csv.specs.Writing.{row_text}
use Rattle.dip_core.specs.Division.{part_at}
use Rattle.answer_core.specs.PrintedRecords.{part_record}
use Rattle.answer_core.specs.RecordBytes.{answer_writer}
use Rattle.answer_core.proofs.Printing.{length-part_records, part_record-at}
use Rattle.answer_core.proofs.print_division.PartRecordsRecordList.print_at.Goals as goal

pub part-requires : goal.part-requires
part-requires c =
    omega (
      arith,
      c.requires,
      c.min-number.ensures,
      c.parts.ensures.value,
      length-part_records 0 c.args.self.now.division.now,
    )

pub returns : goal.returns
returns c =
    let parts = c.args.self.now.division.now in
    let within : c.args.index < length parts = omega (arith, c.requires, length-part_records 0 parts) in
    let same : c.min-number.result ≡ c.args.index =
    omega (arith, c.min-number.ensures, c.parts.ensures.value, within) in
    let items = c.part.result.items.now in
    let line = part_record-at parts c.args.index items within
    (c.part.ensures ∙ ap (part_at parts) same) in
    subst (λ line. OnOk c.part-2.result (c.part-2.new.self ≡ c.args.text.now ++ row_text answer_writer line))
    (ap (λ n. part_record n items) same ∙ sym line) c.part-2.ensures
