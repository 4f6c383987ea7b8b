use Rattle.std.proofs.lemmas.Result.{err_from_is_err_and}
use Rattle.script_core.specs.Script.{streams_of}
use Rattle.live_core.proofs.StreamLemmas.{fault-front, ok-written, run-unbegun}
use Rattle.live_core.proofs.running.run.Goals as goal

pub returns-in_err-live-clause-fault : goal.returns-in_err-live-clause-fault
returns-in_err-live-clause-fault g c =
    let p = err_from_is_err_and c.from_residual.result c.from_residual.ensures.1 in
    rw (p.1, p.2)
    (run-unbegun (streams_of g.R.Read.remaining c.args.reader.now g.W.Write.contents c.args.writer.now))

pub returns-clause-written : goal.returns-clause-written
returns-clause-written g c =
    ok-written (streams_of g.R.Read.remaining c.args.reader.now g.W.Write.contents c.args.writer.now)
    (streams_of g.R.Read.remaining c.answer_all.new.reader g.W.Write.contents c.answer_all.new.writer)
    c.answer_all.result c.answer_all.ensures.ok

pub returns-clause-front : goal.returns-clause-front
returns-clause-front g c =
    fault-front (streams_of g.R.Read.remaining c.args.reader.now g.W.Write.contents c.args.writer.now)
    (streams_of g.R.Read.remaining c.answer_all.new.reader g.W.Write.contents c.answer_all.new.writer)
    c.answer_all.result c.answer_all.ensures.fault
