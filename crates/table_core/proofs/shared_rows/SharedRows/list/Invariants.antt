use Rattle.std.proofs.Common.{◌≡◌, take}
use Rattle.table_core.proofs.shared_rows.SharedRows.list.Given as goal

-- the list has the first rows
abbrev pub invariant-loop-i : goal.invariant-loop-i
invariant-loop-i l = l.list.items ≡ take l.i l.self
