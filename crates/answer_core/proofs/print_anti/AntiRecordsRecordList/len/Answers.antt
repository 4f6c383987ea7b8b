use Rattle.std.proofs.Common.{sym}
use Rattle.std.proofs.lemmas.List.{length-map}
use Rattle.answer_core.specs.PrintedRecords.{anti_record}
use Rattle.answer_core.proofs.print_anti.AntiRecordsRecordList.len.Goals as goal

pub returns : goal.returns
returns c = sym (length-map c.args.self.now.rows.now (anti_record c.args.self.now.left.now))
