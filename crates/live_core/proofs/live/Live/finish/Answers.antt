use Rattle.std.proofs.Common.{arith, subst, sym}
use Rattle.std.proofs.KnownBytes.{Keeps-refl}
use Rattle.std.proofs.lemmas.Result.{err_from_is_err_and}
use Rattle.script_core.specs.declared.outcome.Outcome.{Outcome}
use Rattle.stream_core.specs.Counted.{inner_of, sink_of}
use Rattle.live_core.specs.Portions.{AnswersRest}
use Rattle.live_core.proofs.FeedLemmas.{answers-rest, none-rest, stops-rest}
use Rattle.live_core.proofs.SessionLemmas.{text-few}
use Rattle.live_core.proofs.live.Live.finish.Goals as goal

pub returns-in_err-records-clause-fault : goal.returns-in_err-records-clause-fault
returns-in_err-records-clause-fault g c =
    let now = sink_of g.W.Write.contents c.args.writer.now in
    let p = err_from_is_err_and c.from_residual.result c.from_residual.ensures.1 in
    rw (p.1, p.2) (λ fed dones f.
    none-rest fed dones c.args.self now now f (Keeps-refl (g.W.Write.contents (inner_of c.args.writer.now))))

pub answer-requires-clause-few : goal.answer-requires-clause-few
answer-requires-clause-few g c κs within =
    let parsed = rw c.deref.ensures.value at c.in_ok-records.ensures in
    omega (
      arith,
      text-few c.args.self.text.items c.in_ok-records.records parsed,
      c.requires.fed.2.few,
    )

pub returns-in_err-answer-clause-fault : goal.returns-in_err-answer-clause-fault
returns-in_err-answer-clause-fault g c =
    let parsed = rw c.deref.ensures.value at c.in_ok-records.ensures in
    let p = err_from_is_err_and c.from_residual-in_err-answer.result c.from_residual-in_err-answer.ensures.1 in
    rw (p.1, p.2) (λ fed dones f.
    stops-rest fed dones c.args.self c.in_ok-records.records (sink_of g.W.Write.contents c.args.writer.now)
    (sink_of g.W.Write.contents c.answer.new.writer) _ f parsed c.in_err-answer.ensures.fault)

pub returns-clause-ok : goal.returns-clause-ok
returns-clause-ok g c =
    let parsed = rw c.deref.ensures.value at c.in_ok-records.ensures in
    let before = sink_of g.W.Write.contents c.args.writer.now in
    let after = sink_of g.W.Write.contents c.answer.new.writer in
    λ fed dones f.
    subst (λ (outcome : Outcome). AnswersRest fed dones outcome before after) (sym c.outcome.ensures)
    (answers-rest fed dones c.args.self c.answer.new.self c.in_ok-records.records before after f parsed
    c.in_ok-answer.ensures.ok)
