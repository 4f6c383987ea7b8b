use Rattle.std.proofs.Common.{◌≡◌, length}
use Rattle.ruzgalt_c.specs.Agg.{ArePlateausWritten}
use Rattle.ruzgalt_c.proofs.agg.write_plateaus.Given as goal

abbrev pub invariant-loop-k : goal.invariant-loop-k
invariant-loop-k l = record {
  group_len : length l.group ≡ length l.fn.group;
  from_len : length l.from ≡ length l.fn.from;
  to_len : length l.to ≡ length l.fn.to;
  written : ArePlateausWritten l.plateaus l.k l.group l.from l.to;
}
