use Rattle.std.proofs.Common.{arith, List, ℕ, [], ◌≡◌, ap, subst}
use Rattle.std.specs.Prelude.{IfErr, IfOk}
use Rattle.script_core.specs.Ledgers.{ledger_history, place_in}
use Rattle.script_core.specs.Script.{Place, start_of}
use Rattle.script_core.specs.Writing.{AnswersAll, ExplainsAnswering}
use Rattle.stream_core.specs.Counted.{sink_of}
use Rattle.script_core.proofs.Calls.{calls-enough}
use Rattle.script_core.proofs.RunLemmas.{fault-front, fault-run, ok-run, ok-written}
use Rattle.script_core.proofs.session.run.Goals as goal

pub answer_each-requires-clause-left : goal.answer_each-requires-clause-left
answer_each-requires-clause-left g c κs within =
    let (script, reads, parsed) = c.in_ok-records.ensures.read in
    let few = calls-enough script c.in_ok-records.records parsed reads.within in
    omega (arith, few, c.in_ok-ledger.ensures.1)

pub returns-clause-ok : goal.returns-clause-ok
returns-clause-ok g c =
    let (script, reads, parsed) = c.in_ok-records.ensures.read in
    ok-run _ _ script c.in_ok-records.records _ c.answer_each.result reads parsed
    (rw c.in_ok-ledger.ensures.0 at c.answer_each.ensures.ok)

pub returns-clause-fault : goal.returns-clause-fault
returns-clause-fault g c =
    let (script, reads, parsed) = c.in_ok-records.ensures.read in
    fault-run _ _ script c.in_ok-records.records c.answer_each.result reads parsed c.requires.writes
    (rw c.in_ok-ledger.ensures.0 at c.answer_each.ensures.fault)

pub returns-clause-written : goal.returns-clause-written
returns-clause-written g c = ok-written _ _ c.answer_each.result (returns-clause-ok g c)

pub returns-clause-front : goal.returns-clause-front
returns-clause-front g c = fault-front _ _ c.answer_each.result (returns-clause-fault g c)
