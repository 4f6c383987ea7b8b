use Rattle.std.proofs.Common.{arith}
use Rattle.answer_core.proofs.Printing.{errors_in-printed}
use Rattle.answer_core.proofs.answer.Answer.refusals.Goals as goal

pub returns-in_default : goal.returns-in_default
returns-in_default c = record { counted = errors_in-printed c.args.self.now c.in_default.not-Refused; few = omega arith }
