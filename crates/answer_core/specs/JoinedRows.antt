-- The answer to a join, as it is printed.
use Rattle.std.specs.Prelude.{ℕ, ◌==◌, List, [], find}
use Rattle.std.specs.Option.{option_map_or}
use Rattle.row_core.specs.declared.row.Row.{Row}
use Rattle.row_core.specs.declared.value.Value.{Value}
use Rattle.join_core.specs.declared.rows.JoinRow.{JoinRow}

-- The rows of two tables, and the pairs of them that were joined.
pub record JoinedRows : Type 0 where
  pub left : List Row
  pub right : List Row
  pub rows : List JoinRow

-- The values of the row with this id.
abbrev pub values_with : List Row → ℕ → List Value
values_with rows id = option_map_or (λ row. row.values) (find (λ row. row.id == id) rows) []
