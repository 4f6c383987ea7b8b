use Rattle.std.proofs.Common.{◌∙◌, sym}
use Rattle.std.proofs.lemmas.List.{length-map}
use Rattle.answer_core.specs.PrintedRecords.{version_record}
use Rattle.answer_core.proofs.print.VersionRecordsRecordList.len.Goals as goal

pub returns : goal.returns
returns c = c.len.ensures ∙ sym (length-map c.args.self.now.versions.now version_record)
