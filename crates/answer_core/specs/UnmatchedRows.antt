-- The answer to an anti-join, as it is printed.
use Rattle.std.specs.Prelude.{List}
use Rattle.row_core.specs.declared.row.Row.{Row}
use Rattle.anti_core.specs.declared.rows.AntiRow.{AntiRow}

-- The left table's rows, and the periods when no right row matches them.
pub record UnmatchedRows : Type 0 where
  pub left : List Row
  pub rows : List AntiRow
