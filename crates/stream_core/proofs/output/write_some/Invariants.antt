-- Until a write succeeds, the writer keeps its bytes, and each interruption uses up a retry.
use Rattle.std.proofs.Common.{◌+◌, ◌≤◌}
use Rattle.std.specs.Io.KnownBytes.{Keeps}
use Rattle.stream_core.specs.Counted.{inner_of, failures_of}
use Rattle.stream_core.proofs.output.write_some.Given as goal

abbrev pub invariant-loop-n : goal.invariant-loop-n
invariant-loop-n g l = record {
  kept : Keeps (g.W.Write.contents (inner_of l.initial.writer)) (g.W.Write.contents (inner_of l.writer));
  counts : failures_of l.initial.writer ≤ failures_of l.writer;
  tries : failures_of l.writer + l.patience.left ≤ failures_of l.initial.writer + l.initial.patience.left;
}

abbrev pub decreases-loop-n : goal.decreases-loop-n
decreases-loop-n g l = l.patience.left
