use Rattle.std.proofs.Common.{◌≡◌, ◌++◌, map, take}
use Rattle.anti_core.specs.ItemAnti.{row_of_gap}
use Rattle.anti_core.proofs.rows.add_rows.Given as goal

abbrev pub invariant-loop-gap : goal.invariant-loop-gap
invariant-loop-gap l = l.rows.items ≡ l.fn.rows.items ++ map row_of_gap (take l.gap-index l.gaps)
