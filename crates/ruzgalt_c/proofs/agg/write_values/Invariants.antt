use Rattle.std.proofs.Common.{◌≡◌, length}
use Rattle.ruzgalt_c.specs.Agg.{AreValuesWritten}
use Rattle.ruzgalt_c.proofs.agg.write_values.Given as goal

abbrev pub invariant-loop-k : goal.invariant-loop-k
invariant-loop-k l = record {
  low_len : length l.low ≡ length l.fn.low;
  high_len : length l.high ≡ length l.fn.high;
  written : AreValuesWritten l.plateaus l.k l.low l.high;
}
