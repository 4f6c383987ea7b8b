use Rattle.std.proofs.Common.{subst, sym}
use Rattle.std.proofs.lemmas.Result.{IfOk-weaker}
use Rattle.command_core.specs.Statement.{Statement}
use Rattle.script_core.specs.Ledgers.{ledger_history}
use Rattle.script_core.specs.Performing.{PrintsStatement}
use Rattle.script_core.proofs.session.answer_statement.Goals as goal

pub answer_together-requires-clause-whole : goal.answer_together-requires-clause-whole
answer_together-requires-clause-whole g c κs within =
    let stands = rw c.in-Together.is at c.requires.stands.1 in (stands.0, stands.1)

pub returns-in-Together-clause-printed : goal.returns-in-Together-clause-printed
returns-in-Together-clause-printed g c =
    IfOk-weaker c.answer_together.result _ _
    (λ reported given meant stands.
    let is = rw c.in-Together.is at stands in
    subst
    (λ (said : Statement). PrintsStatement (ledger_history c.args.ledger.now) c.args.number said
    (ledger_history c.answer_together.new.ledger) c.args.printer.now c.answer_together.new.printer reported) (sym is.2)
    (given is.0 is.1)) c.answer_together.ensures.printed
