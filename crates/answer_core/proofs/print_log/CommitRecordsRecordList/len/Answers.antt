use Rattle.std.proofs.Common.{sym}
use Rattle.std.proofs.lemmas.List.{length-map}
use Rattle.answer_core.specs.PrintedRecords.{commit_record}
use Rattle.answer_core.proofs.print_log.CommitRecordsRecordList.len.Goals as goal

pub returns : goal.returns
returns c = sym (length-map c.args.self.now.entries.now commit_record)
