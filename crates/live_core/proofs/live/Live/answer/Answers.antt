use Rattle.std.proofs.Common.{arith, drop, length, length-drop, length-take, refl, take, take_all, ◌-◌, ◌∙◌}
use Rattle.std.proofs.KnownBytes.{Keeps-refl}
use Rattle.std.proofs.lemmas.Result.{IfErr-weaker, IfOk-weaker, err_from_is_err_and}
use Rattle.stream_core.specs.Counted.{inner_of, sink_of}
use Rattle.live_core.proofs.FeedLemmas.{answers-more, long-more, none-answered, stops-more}
use Rattle.live_core.proofs.SessionLemmas.{text-few}
use Rattle.live_core.proofs.live.Live.answer.Goals as goal

pub returns-in_err-records-clause-fault : goal.returns-in_err-records-clause-fault
returns-in_err-records-clause-fault g c =
    let p = err_from_is_err_and c.from_residual.result c.from_residual.ensures.1 in
    rw (p.1, p.2) (λ fed dones to. none-answered fed dones c.args.self.now c.args.end
    (sink_of g.W.Write.contents c.args.writer.now) (sink_of g.W.Write.contents c.args.writer.now) to
    (Keeps-refl (g.W.Write.contents (inner_of c.args.writer.now))))

pub returns-in_err-self-clause-fault : goal.returns-in_err-self-clause-fault
returns-in_err-self-clause-fault g c =
    let p = err_from_is_err_and c.from_residual-in_err-self.result c.from_residual-in_err-self.ensures.1 in
    rw (p.1, p.2) (λ fed dones to. none-answered fed dones c.args.self.now c.args.end
    (sink_of g.W.Write.contents c.args.writer.now) (sink_of g.W.Write.contents c.args.writer.now) to
    (Keeps-refl (g.W.Write.contents (inner_of c.args.writer.now))))

pub answer-requires-clause-few : goal.answer-requires-clause-few
answer-requires-clause-few g c κs within =
    let text = c.args.self.now.text.items in
    let parsed = rw c.deref.ensures.value at c.in_ok-records.ensures in
    omega (
      arith,
      text-few (take c.args.end text) c.in_ok-records.records parsed,
      length-take c.args.end text,
      c.requires.fed.2.few,
    )

pub returns-in_err-answer-clause-fault : goal.returns-in_err-answer-clause-fault
returns-in_err-answer-clause-fault g c =
    let parsed = rw c.deref.ensures.value at c.in_ok-records.ensures in
    let p = err_from_is_err_and c.from_residual-in_err-answer.result c.from_residual-in_err-answer.ensures.1 in
    rw (p.1, p.2) (λ fed dones to.
    stops-more fed dones c.args.self.now c.args.end c.in_ok-records.records _ _ _ to c.requires.some parsed
    c.in_err-answer.ensures.fault)

pub returns-clause-ok : goal.returns-clause-ok
returns-clause-ok g c =
    let parsed = rw c.deref.ensures.value at c.in_ok-records.ensures in
    let old = c.args.self.now.text.items in
    let behind = drop (c.args.end - 1) old in
    let text = rw c.deref-2.ensures.value at c.in_ok-self.ensures.items
    ∙ take_all (length old - (c.args.end - 1)) behind (omega (arith, length-drop (c.args.end - 1) old)) in
    IfOk-weaker c.check_size.result _ _
    (λ u within fed dones to.
    answers-more fed dones c.args.self.now _ c.args.end c.in_ok-records.records _ _ to c.requires.some parsed text refl
    refl c.in_ok-answer.ensures.ok c.in_ok-answer.ensures.fit within) c.check_size.ensures.ok

pub returns-clause-fault : goal.returns-clause-fault
returns-clause-fault g c =
    let parsed = rw c.deref.ensures.value at c.in_ok-records.ensures in
    IfErr-weaker c.check_size.result _ _
    (λ why is fed dones to.
    rw is (long-more fed dones c.args.self.now c.answer.new.self c.args.end c.in_ok-records.records _ _ to
    c.requires.some parsed c.in_ok-answer.ensures.ok)) c.check_size.ensures.err
