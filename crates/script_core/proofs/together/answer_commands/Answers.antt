use Rattle.std.proofs.Common.{sym}
use Rattle.std.proofs.lemmas.Result.{IfOk-weaker}
use Rattle.store_core.specs.Snapshots.{history}
use Rattle.script_core.specs.Ledgers.{ledger_history}
use Rattle.script_core.proofs.Blocks.{queries-block}
use Rattle.script_core.proofs.together.answer_commands.Goals as goal

pub first_load-requires : goal.first_load-requires
first_load-requires g c = record {
  whole = (c.args.block.first, c.requires.whole.0, c.requires.whole.1);
}

pub returns-in-None-clause-printed : goal.returns-in-None-clause-printed
returns-in-None-clause-printed g c =
    IfOk-weaker c.answer_queries.result _ _
    (λ reported given members are.
    queries-block (history c.args.context.now.newest.now) (ledger_history c.args.ledger.now) members c.args.printer.now
    c.answer_queries.new.printer reported (c.in-None.ensures.none c.args.block.first members are)
    (sym c.requires.same) (given.printed members are)) c.answer_queries.ensures

pub returns-in-None-clause-few : goal.returns-in-None-clause-few
returns-in-None-clause-few g c =
    IfOk-weaker c.answer_queries.result _ _ (λ reported given. given.few) c.answer_queries.ensures

pub returns-in-None-clause-fewer : goal.returns-in-None-clause-fewer
returns-in-None-clause-fewer g c =
    IfOk-weaker c.answer_queries.result _ _ (λ reported given. given.fewer) c.answer_queries.ensures
