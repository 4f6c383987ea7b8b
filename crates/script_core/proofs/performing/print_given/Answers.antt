use Rattle.std.proofs.lemmas.Result.{IfOk-weaker}
use Rattle.script_core.proofs.performing.print_given.Goals as goal

pub returns-in-Ok-clause-printed : goal.returns-in-Ok-clause-printed
returns-in-Ok-clause-printed g c =
    IfOk-weaker c.print_answer.result _ _ (λ errors printed. (c.in-Ok.answer, c.in-Ok.is, printed))
    c.print_answer.ensures.printed
