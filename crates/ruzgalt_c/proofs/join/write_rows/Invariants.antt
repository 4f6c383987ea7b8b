use Rattle.std.proofs.Common.{◌≡◌, length}
use Rattle.ruzgalt_c.specs.Join.{AreWritten}
use Rattle.ruzgalt_c.proofs.join.write_rows.Given as goal

abbrev pub invariant-loop-k : goal.invariant-loop-k
invariant-loop-k l = record {
  left_len : length l.left ≡ length l.fn.left;
  right_len : length l.right ≡ length l.fn.right;
  from_len : length l.from ≡ length l.fn.from;
  to_len : length l.to ≡ length l.fn.to;
  written : AreWritten l.rows l.k l.left l.right l.from l.to;
}
