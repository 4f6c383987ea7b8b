use Rattle.std.proofs.Common.{append_assoc, append-nil, rules}
use Rattle.std.proofs.lemmas.Result.{IfOk-equal}
use Rattle.csv.specs.Writing.{fields_text, is_blank}
use Rattle.answer_core.proofs.record_text.RecordText.verdict.Goals as goal

pub returns-in-NotCrowded : goal.returns-in-NotCrowded
returns-in-NotCrowded c = rw c.in-NotCrowded.is c.refutation-in-NotCrowded.ensures

pub returns-in_ok-begin-in-Yes : goal.returns-in_ok-begin-in-Yes
unfolding fields_text is_blank
returns-in_ok-begin-in-Yes c = search (rules, IfOk-equal, append_assoc, append-nil)
