use Rattle.std.proofs.Common.{◌≡◌, ◌+◌, ◌++◌, drop, map, take}
use Rattle.draft_core.specs.Columns.{AreLong, Keep, values_at, values_of_column}
use Rattle.row_core.specs.Reading.{values_of}
use Rattle.row_core.specs.Refusals.{map_ok}
use Rattle.draft_core.proofs.columns.read_values.Given as goal

-- the columns kept their first values; all values are those read into the first columns, followed by the remaining ones
abbrev pub invariant-loop-i : goal.invariant-loop-i
invariant-loop-i g l = record {
  kept : Keep l.count l.initial.values.items l.values.items;
  long : AreLong l.count l.values.items;
  longer : AreLong (l.count + 1) (take l.i l.values.items);
  meant : values_of l.columns (drop 2 (g.L.Fields.fields l.fields))
      ≡ map_ok (λ rest. values_at (map values_of_column (take l.i l.values.items)) l.count ++ rest)
      (values_of (drop l.i l.columns) (drop l.i (drop 2 (g.L.Fields.fields l.fields))));
}
