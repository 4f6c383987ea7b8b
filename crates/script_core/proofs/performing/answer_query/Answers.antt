use Rattle.std.proofs.lemmas.Result.{IfOk-weaker}
use Rattle.command_core.specs.Command.{meaning_of}
use Rattle.store_core.specs.Snapshots.{history}
use Rattle.script_core.proofs.Blocks.{command-printed}
use Rattle.script_core.proofs.performing.answer_query.Goals as goal

pub returns-clause-printed : goal.returns-clause-printed
returns-clause-printed g c =
    let before = history c.args.context.now.newest.now in
    IfOk-weaker c.print_given.result _ _
    (λ errors printed.
    command-printed before c.args.number (meaning_of c.args.command) c.query.result before c.answer_of-answer.result
    c.args.printer.now c.print_given.new.printer errors c.query.ensures c.answer_of-answer.ensures.answer printed)
    c.print_given.ensures.printed
