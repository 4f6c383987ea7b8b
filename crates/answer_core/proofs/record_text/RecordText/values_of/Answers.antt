use Rattle.std.proofs.Common.{append-nil, sym}
use Rattle.csv.specs.Writing.{fields_text}
use Rattle.answer_core.proofs.record_text.RecordText.values_of.Goals as goal

pub returns-in-None : goal.returns-in-None
unfolding fields_text
returns-in-None c = rw c.in-None.is (sym (append-nil c.args.self.now))
