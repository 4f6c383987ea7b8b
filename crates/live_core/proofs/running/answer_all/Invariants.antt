-- The bytes that were read are fed.
use Rattle.std.proofs.Common.{◌≤◌}
use Rattle.stream_core.specs.Counted.{failures_of}
use Rattle.script_core.specs.Script.{streams_of}
use Rattle.live_core.proofs.StreamLemmas.{IsRunTo}
use Rattle.live_core.proofs.running.answer_all.Given as goal

abbrev pub invariant-loop : goal.invariant-loop
invariant-loop g l = record {
  to : IsRunTo (streams_of g.R.Read.remaining l.fn.reader g.W.Write.contents l.fn.writer)
      (streams_of g.R.Read.remaining l.reader g.W.Write.contents l.writer) l.live;
  reads : failures_of l.fn.reader ≤ failures_of l.reader;
  writes : failures_of l.fn.writer ≤ failures_of l.writer;
}
