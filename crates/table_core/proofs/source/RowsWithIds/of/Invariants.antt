use Rattle.std.proofs.Common.{◌≡◌}
use Rattle.table_core.proofs.source.RowsWithIds.of.Given as goal

-- the first rows have been added
abbrev pub invariant-loop-row : goal.invariant-loop-row
invariant-loop-row l = l.rows ≡ l.yielded
