use Rattle.std.proofs.Common.{append_assoc, append-nil, rules}
use Rattle.std.proofs.lemmas.Result.{IfOk-equal}
use Rattle.csv.specs.Writing.{fields_text, is_blank}
use Rattle.answer_core.proofs.FieldLemmas.{fields_text-append}
use Rattle.answer_core.proofs.record_text.RecordText.version.Goals as goal

pub returns : goal.returns
unfolding fields_text is_blank
returns c = search (rules, IfOk-equal, append_assoc, append-nil, fields_text-append)
