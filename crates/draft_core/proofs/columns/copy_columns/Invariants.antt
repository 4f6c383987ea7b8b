use Rattle.std.proofs.Common.{◌≡◌, map, take}
use Rattle.draft_core.specs.Columns.{kind_of_column, values_of_column}
use Rattle.draft_core.proofs.columns.copy_columns.Given as goal

-- the list has copies of the first columns
abbrev pub invariant-loop-column : goal.invariant-loop-column
invariant-loop-column l = record {
  kinds : map kind_of_column l.copies.items ≡ map kind_of_column (take l.column-index l.columns);
  values : map values_of_column l.copies.items ≡ map values_of_column (take l.column-index l.columns);
}
