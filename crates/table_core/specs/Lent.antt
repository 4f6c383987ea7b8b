-- A row borrowed from a list of rows.
use Rattle.draft_core.specs.Lent.{lent_draft}
use Rattle.row_core.specs.declared.row.Row.{Row}
use Rattle.table_core.specs.Numbered.{row_of}
use Rattle.table_core.specs.declared.row_ref.RowRef.{RowRef}

-- the row that is borrowed
abbrev pub lent_row : RowRef → Row
lent_row lent = row_of lent.id (lent_draft lent.draft)
