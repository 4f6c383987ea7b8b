use Rattle.std.proofs.Common.{◌≡◌, ◌++◌, take}
use Rattle.join_core.specs.PairValues.{rows_in}
use Rattle.join_core.proofs.rows.add_rows.Given as goal

abbrev pub invariant-loop-i : goal.invariant-loop-i
invariant-loop-i l = l.rows.items ≡ l.fn.rows.items ++ rows_in (take l.i l.outs)
