use Rattle.std.proofs.lemmas.Result.{IfOk-weaker}
use Rattle.command_core.specs.Command.{meaning_of}
use Rattle.script_core.specs.Ledgers.{ledger_history}
use Rattle.script_core.proofs.Blocks.{command-printed}
use Rattle.script_core.proofs.performing.answer_command.Goals as goal

pub returns-clause-printed : goal.returns-clause-printed
returns-clause-printed g c =
    IfOk-weaker c.print_given.result _ _
    (λ errors printed.
    command-printed (ledger_history c.args.ledger.now) c.args.number (meaning_of c.args.command) c.perform.result
    (ledger_history c.perform.new.ledger) c.answer_of-answer.result c.args.printer.now c.print_given.new.printer
    errors c.perform.ensures.performs c.answer_of-answer.ensures.answer printed)
    c.print_given.ensures.printed
