-- Until a read succeeds, the reader keeps its bytes, and each interruption uses up a retry.
use Rattle.std.proofs.Common.{◌+◌, ◌≤◌}
use Rattle.std.specs.Io.KnownBytes.{Keeps}
use Rattle.stream_core.specs.Counted.{inner_of, failures_of}
use Rattle.stream_core.proofs.input.read_some.Given as goal

abbrev pub invariant-loop-n : goal.invariant-loop-n
invariant-loop-n g l = record {
  kept : Keeps (g.R.Read.remaining (inner_of l.initial.reader)) (g.R.Read.remaining (inner_of l.reader));
  counts : failures_of l.initial.reader ≤ failures_of l.reader;
  tries : failures_of l.reader + l.patience.left ≤ failures_of l.initial.reader + l.initial.patience.left;
}

abbrev pub decreases-loop-n : goal.decreases-loop-n
decreases-loop-n g l = l.patience.left
