-- The bytes read are appended to the text.
use Rattle.std.proofs.Common.{◌≤◌, ◌+◌, ◌-◌, length, vec_len}
use Rattle.stream_core.specs.Counted.{inner_of, failures_of}
use Rattle.stream_core.specs.Faults.{HasReadOn}
use Rattle.stream_core.proofs.input.read_on.Given as goal

abbrev pub invariant-loop-chunk : goal.invariant-loop-chunk
invariant-loop-chunk g l = record {
  read : HasReadOn (g.R.Read.remaining (inner_of l.initial.reader)) (g.R.Read.remaining (inner_of l.reader))
      l.initial.text.items l.text.items;
  within : length l.text.items ≤ l.limit;
  counts : failures_of l.initial.reader ≤ failures_of l.reader;
  tries : failures_of l.reader + l.patience.left ≤ failures_of l.initial.reader + l.initial.patience.left;
}

abbrev pub decreases-loop-chunk : goal.decreases-loop-chunk
decreases-loop-chunk g l = l.wanted - vec_len l.text
