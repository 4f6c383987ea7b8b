use Rattle.std.proofs.Common.{◌≡◌, length}
use Rattle.ruzgalt_c.specs.Anti.{AreAntiWritten}
use Rattle.ruzgalt_c.proofs.anti.write_anti_rows.Given as goal

abbrev pub invariant-loop-k : goal.invariant-loop-k
invariant-loop-k l = record {
  left_len : length l.left ≡ length l.fn.left;
  from_len : length l.from ≡ length l.fn.from;
  to_len : length l.to ≡ length l.fn.to;
  written : AreAntiWritten l.rows l.k l.left l.from l.to;
}
