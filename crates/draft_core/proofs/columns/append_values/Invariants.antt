use Rattle.std.proofs.Common.{◌≡◌, ◌+◌, ◌<◌, ◌++◌, ℕ, length, map, take}
use Rattle.draft_core.specs.Columns.{AreLong, Keep, values_at, values_of_column}
use Rattle.draft_core.proofs.columns.append_values.Given as goal

-- the columns kept their first values, and the first columns have the new values after them
abbrev pub invariant-loop-values : goal.invariant-loop-values
invariant-loop-values l = record {
  place : l.place ≡ length l.yielded;
  whole : l.fn.more.items ≡ l.yielded ++ l.values-iterator.rest.items;
  kept : Keep l.count l.initial.columns.items l.columns.items;
  long : AreLong l.count l.columns.items;
  longer : AreLong (l.count + l.more_count) (take l.place l.columns.items);
  same : (i : ℕ) → i < l.more_count → values_at (map values_of_column (take l.place l.columns.items)) (l.count + i)
      ≡ values_at (map values_of_column l.yielded) i;
}
