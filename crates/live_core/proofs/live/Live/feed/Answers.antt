use Rattle.std.proofs.Common.{[], append-nil, arith, subst, sym, ◌++◌}
use Rattle.std.proofs.KnownBytes.{Keeps-refl}
use Rattle.std.proofs.lemmas.Result.{IfErr-weaker, IfOk-weaker, err_from_is_err_and}
use Rattle.stream_core.specs.Counted.{inner_of, sink_of}
use Rattle.live_core.specs.Portions.{AreDone}
use Rattle.live_core.proofs.FeedLemmas.{answers-none, none-written}
use Rattle.live_core.proofs.SessionLemmas.{front-none}
use Rattle.live_core.proofs.live.Live.feed.Goals as goal

pub returns-in_err-end-clause-fault : goal.returns-in_err-end-clause-fault
returns-in_err-end-clause-fault g c =
    let now = sink_of g.W.Write.contents c.args.writer.now in
    let p = err_from_is_err_and c.from_residual.result c.from_residual.ensures.1 in
    rw (p.1, p.2) (λ fed dones f.
    none-written fed c.args.bytes.now dones c.args.self.now now now f
    (Keeps-refl (g.W.Write.contents (inner_of c.args.writer.now))))

pub answer-requires-clause-fed : goal.answer-requires-clause-fed
answer-requires-clause-fed g c κs within =
    let (fed, dones, f) = c.requires.fed in
    (fed ++ c.args.bytes.now, dones, (c.in_ok-end.ensures fed dones f).some (omega (arith, c.in_default)))

pub returns-in-0-clause-ok : goal.returns-in-0-clause-ok
returns-in-0-clause-ok g c =
    let now = sink_of g.W.Write.contents c.args.writer.now in
    IfOk-weaker c.check_size.result _ _
    (λ u within fed dones f.
    let all = (c.in_ok-end.ensures fed dones f).none c.in-0.is in
    answers-none (fed ++ c.args.bytes.now) dones c.scan_on.new.self now now all.0 (all.1 within)
    (Keeps-refl (g.W.Write.contents (inner_of c.args.writer.now)))) c.check_size.ensures.ok

pub returns-in-0-clause-fault : goal.returns-in-0-clause-fault
returns-in-0-clause-fault g c =
    let written = g.W.Write.contents (inner_of c.args.writer.now) in
    IfErr-weaker c.check_size.result _ _
    (λ why is fed dones f.
    let all = (c.in_ok-end.ensures fed dones f).none c.in-0.is in
    rw is (
      [],
      subst (AreDone (fed ++ c.args.bytes.now)) (sym (append-nil dones)) all.0,
      front-none written written [] (Keeps-refl written),
    )) c.check_size.ensures.err

pub returns-in_default-clause-ok : goal.returns-in_default-clause-ok
returns-in_default-clause-ok g c =
    IfOk-weaker c.answer.result _ _
    (λ u more fed dones f.
    more (fed ++ c.args.bytes.now) dones ((c.in_ok-end.ensures fed dones f).some (omega (arith, c.in_default))))
    c.answer.ensures.ok

pub returns-in_default-clause-fault : goal.returns-in_default-clause-fault
returns-in_default-clause-fault g c =
    IfErr-weaker c.answer.result _ _
    (λ why more fed dones f.
    more (fed ++ c.args.bytes.now) dones ((c.in_ok-end.ensures fed dones f).some (omega (arith, c.in_default))))
    c.answer.ensures.fault
