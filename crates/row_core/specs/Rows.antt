-- Lists of rows.
use Rattle.std.specs.Prelude.{List}
use Rattle.list_core.specs.Order.{RiseBy}
use Rattle.row_core.specs.declared.row.Row.{Row}

-- each id is less than the next
abbrev pub RowsRise : List Row → Type 0
RowsRise rows = RiseBy (λ (row : Row). row.id) rows
