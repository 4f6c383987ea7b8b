use Rattle.std.proofs.Common.{◌∙◌, sym}
use Rattle.answer_core.proofs.Printing.{length-part_records}
use Rattle.answer_core.proofs.print_division.PartRecordsRecordList.len.Goals as goal

pub returns : goal.returns
returns c = c.parts.ensures.value ∙ sym (length-part_records 0 c.args.self.now.division.now)
