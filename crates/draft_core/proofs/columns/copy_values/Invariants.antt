use Rattle.std.proofs.Common.{◌≡◌, map, take}
use Rattle.draft_core.specs.Columns.{values_at, values_of_column}
use Rattle.draft_core.proofs.columns.copy_values.Given as goal

-- the list has the values of the first columns
abbrev pub invariant-loop-column : goal.invariant-loop-column
invariant-loop-column l = l.values.items ≡ values_at (map values_of_column (take l.column-index l.columns)) l.place
