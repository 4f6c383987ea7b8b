use Rattle.std.proofs.Common.{append_assoc, append-nil, rules}
use Rattle.std.proofs.lemmas.Result.{IfOk-equal}
use Rattle.csv.specs.Writing.{fields_text}
use Rattle.answer_core.proofs.record_text.RecordText.join_front.Goals as goal

pub returns : goal.returns
unfolding fields_text
returns c = search (rules, IfOk-equal, append_assoc, append-nil)
