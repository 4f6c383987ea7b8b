use Rattle.std.proofs.Common.{◌≡◌, ◌+◌, map, take}
use Rattle.draft_core.specs.Columns.{AreLong, Keep, values_at, values_of_column}
use Rattle.draft_core.proofs.columns.push_values.Given as goal

-- the columns kept their first values, and the first columns have the new values after them
abbrev pub invariant-loop-i : goal.invariant-loop-i
invariant-loop-i l = record {
  kept : Keep l.count l.initial.columns.items l.columns.items;
  long : AreLong l.count l.columns.items;
  longer : AreLong (l.count + 1) (take l.i l.columns.items);
  same : values_at (map values_of_column (take l.i l.columns.items)) l.count ≡ take l.i l.values;
}
