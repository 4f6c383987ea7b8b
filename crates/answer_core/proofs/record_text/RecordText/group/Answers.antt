use Rattle.std.proofs.Common.{append-nil, rules, sym}
use Rattle.csv.specs.Writing.{fields_text}
use Rattle.answer_core.proofs.record_text.RecordText.group.Goals as goal

pub returns-in-Some : goal.returns-in-Some
unfolding fields_text
returns-in-Some c = rw c.in-Some.is (search (rules, append-nil))

pub returns-in-None : goal.returns-in-None
unfolding fields_text
returns-in-None c = rw c.in-None.is (sym (append-nil c.args.self.now))
