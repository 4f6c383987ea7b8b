-- Rows read one by one.
use Rattle.std.specs.Prelude.{List}
use Rattle.row_core.specs.declared.draft.Draft.{Draft}
use Rattle.row_core.specs.declared.schema.Column.{Column}

-- the columns of a table, and the rows read already
pub record RowsRead : Type 0 where
  pub columns : List Column
  pub rows : List Draft
