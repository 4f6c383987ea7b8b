-- The bytes accepted are a prefix of all bytes.
use Rattle.std.proofs.Common.{◌+◌, ◌≤◌, ◌-◌, length, take}
use Rattle.std.specs.Io.KnownBytes.{Appends}
use Rattle.stream_core.specs.Counted.{inner_of, failures_of}
use Rattle.stream_core.proofs.output.write_all.Given as goal

abbrev pub invariant-loop-taken : goal.invariant-loop-taken
invariant-loop-taken g l = record {
  within : l.taken ≤ length l.bytes;
  written : Appends (g.W.Write.contents (inner_of l.fn.writer)) (g.W.Write.contents (inner_of l.writer))
      (take l.taken l.bytes);
  counts : failures_of l.fn.writer ≤ failures_of l.writer;
  tries : failures_of l.writer + l.patience.left ≤ failures_of l.fn.writer + l.fn.patience.left;
}

abbrev pub decreases-loop-taken : goal.decreases-loop-taken
decreases-loop-taken g l = length l.bytes - l.taken
