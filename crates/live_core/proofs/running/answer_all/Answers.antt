use Rattle.std.proofs.Common.{arith, refl, ◌++◌}
use Rattle.std.proofs.lemmas.Result.{IfErr-weaker, IfOk-weaker, err_from_is_err_and}
use Rattle.script_core.specs.Script.{streams_of}
use Rattle.stream_core.specs.Counted.{inner_of}
use Rattle.stream_core.specs.Faults.{script_limit}
use Rattle.live_core.proofs.StreamLemmas.{read-portion, run-endless, run-more, run-none, run-over, run-stopped, run-stopped-rest, run-unread}
use Rattle.live_core.proofs.running.answer_all.Goals as goal

pub loop-init : goal.loop-init
loop-init g c = record {
  to = run-none (streams_of g.R.Read.remaining c.args.reader.now g.W.Write.contents c.args.writer.now) c.args.live
      c.requires.fed;
  reads = omega arith;
  writes = omega arith;
}

pub returns-in_err-is_end-clause-fault : goal.returns-in_err-is_end-clause-fault
returns-in_err-is_end-clause-fault g c =
    let remaining = g.R.Read.remaining in
    let contents = g.W.Write.contents in
    let before = streams_of remaining c.args.reader.now contents c.args.writer.now in
    let now = streams_of remaining c.loop.reader contents c.loop.writer in
    let t = c.loop.invariant.to in
    let after = streams_of remaining c.read_on.new.reader contents c.loop.writer in
    let why = rw c.clear.ensures.items at c.in_err-is_end.ensures.fault in
    let p = err_from_is_err_and c.from_residual.result c.from_residual.ensures.1 in
    rw (p.1, p.2) (run-unread before now after c.loop.live script_limit c.in_err-is_end.field-0.0 t refl
    c.loop.invariant.reads c.requires.reads why)

pub returns-in_err-feed-clause-fault : goal.returns-in_err-feed-clause-fault
returns-in_err-feed-clause-fault g c =
    let remaining = g.R.Read.remaining in
    let contents = g.W.Write.contents in
    let before = streams_of remaining c.args.reader.now contents c.args.writer.now in
    let now = streams_of remaining c.loop.reader contents c.loop.writer in
    let t = c.loop.invariant.to in
    let left = remaining (inner_of c.read_on.new.reader) in
    let portion = c.read_on.new.text.items in
    let read = read-portion (remaining (inner_of c.loop.reader)) left c.clear.new.self.items portion
    c.in_ok-is_end.ensures.read c.clear.ensures.items in
    let after = streams_of remaining c.read_on.new.reader contents c.feed.new.writer in
    let why = rw c.deref.ensures.value at (c.in_err-feed.ensures.fault t.bytes t.dones t.fed) in
    let p = err_from_is_err_and c.from_residual-in_err-feed.result c.from_residual-in_err-feed.ensures.1 in
    rw (p.1, p.2) (run-stopped before now after c.loop.live portion c.in_err-feed.field-0.0 t left read
    c.loop.invariant.writes c.requires.writes why)

pub finish-requires-clause-fed : goal.finish-requires-clause-fed
finish-requires-clause-fed g c κs within =
    let t = c.loop.invariant.to in
    let answers = c.in_ok-feed.ensures.ok t.bytes t.dones t.fed in
    (t.bytes ++ c.deref.result.now, t.dones ++ answers.more, answers.fed)

pub returns-then-is_end-clause-ok : goal.returns-then-is_end-clause-ok
returns-then-is_end-clause-ok g c =
    let remaining = g.R.Read.remaining in
    let contents = g.W.Write.contents in
    let before = streams_of remaining c.args.reader.now contents c.args.writer.now in
    let now = streams_of remaining c.loop.reader contents c.loop.writer in
    let t = c.loop.invariant.to in
    let left = remaining (inner_of c.read_on.new.reader) in
    let portion = c.read_on.new.text.items in
    let read = read-portion (remaining (inner_of c.loop.reader)) left c.clear.new.self.items portion
    c.in_ok-is_end.ensures.read c.clear.ensures.items in
    let next = streams_of remaining c.read_on.new.reader contents c.feed.new.writer in
    let answers = rw c.deref.ensures.value at (c.in_ok-feed.ensures.ok t.bytes t.dones t.fed) in
    let to = run-more before now next c.loop.live c.feed.new.self portion t read answers in
    let after = streams_of remaining c.read_on.new.reader contents c.finish.new.writer in
    IfOk-weaker c.finish.result _ _
    (λ outcome rest.
    run-over before next after c.feed.new.self outcome to refl (c.in_ok-is_end.ensures.end c.if-is_end.true)
    (rest to.bytes to.dones to.fed)) c.finish.ensures.ok

pub returns-then-is_end-clause-fault : goal.returns-then-is_end-clause-fault
returns-then-is_end-clause-fault g c =
    let remaining = g.R.Read.remaining in
    let contents = g.W.Write.contents in
    let before = streams_of remaining c.args.reader.now contents c.args.writer.now in
    let now = streams_of remaining c.loop.reader contents c.loop.writer in
    let t = c.loop.invariant.to in
    let left = remaining (inner_of c.read_on.new.reader) in
    let portion = c.read_on.new.text.items in
    let read = read-portion (remaining (inner_of c.loop.reader)) left c.clear.new.self.items portion
    c.in_ok-is_end.ensures.read c.clear.ensures.items in
    let next = streams_of remaining c.read_on.new.reader contents c.feed.new.writer in
    let answers = rw c.deref.ensures.value at (c.in_ok-feed.ensures.ok t.bytes t.dones t.fed) in
    let to = run-more before now next c.loop.live c.feed.new.self portion t read answers in
    let after = streams_of remaining c.read_on.new.reader contents c.finish.new.writer in
    IfErr-weaker c.finish.result _ _
    (λ fault why.
    run-stopped-rest before next after c.feed.new.self fault to refl (c.in_ok-is_end.ensures.end c.if-is_end.true)
    (omega (arith, c.loop.invariant.writes, c.in_ok-feed.ensures.counts)) c.requires.writes
    (why to.bytes to.dones to.fed)) c.finish.ensures.fault

pub loop-preserved : goal.loop-preserved
loop-preserved g c =
    let remaining = g.R.Read.remaining in
    let contents = g.W.Write.contents in
    let before = streams_of remaining c.args.reader.now contents c.args.writer.now in
    let now = streams_of remaining c.loop.reader contents c.loop.writer in
    let t = c.loop.invariant.to in
    let left = remaining (inner_of c.read_on.new.reader) in
    let portion = c.read_on.new.text.items in
    let read = read-portion (remaining (inner_of c.loop.reader)) left c.clear.new.self.items portion
    c.in_ok-is_end.ensures.read c.clear.ensures.items in
    let next = streams_of remaining c.read_on.new.reader contents c.feed.new.writer in
    let answers = rw c.deref.ensures.value at (c.in_ok-feed.ensures.ok t.bytes t.dones t.fed) in
    let to = run-more before now next c.loop.live c.feed.new.self portion t read answers in
    record {
      to = to;
      reads = omega (arith, c.loop.invariant.reads, c.in_ok-is_end.ensures.counts);
      writes = omega (arith, c.loop.invariant.writes, c.in_ok-feed.ensures.counts);
    }

pub returns-clause-fault : goal.returns-clause-fault
returns-clause-fault g c =
    let remaining = g.R.Read.remaining in
    let contents = g.W.Write.contents in
    let before = streams_of remaining c.args.reader.now contents c.args.writer.now in
    let now = streams_of remaining c.loop.reader contents c.loop.writer in
    let t = c.loop.invariant.to in
    run-endless before now c.loop.live t
