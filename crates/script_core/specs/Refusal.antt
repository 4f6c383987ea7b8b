-- The names that scripts have for the refusals of lower crates.
use Rattle.row_core.specs.declared.reading.RowRefused.{RowRefused}
use Rattle.row_core.specs.declared.reading.RowRefused.TheVariants as row
use Rattle.row_core.specs.declared.value.ValueRefused.{ValueRefused}
use Rattle.row_core.specs.declared.value.ValueRefused.TheVariants as value
use Rattle.book_core.specs.declared.refusal.BookRefused.{BookRefused}
use Rattle.book_core.specs.declared.refusal.BookRefused.TheVariants as book
use Rattle.book_core.specs.declared.refusal.RowsRefused.{RowsRefused}
use Rattle.book_core.specs.declared.refusal.RowsRefused.TheVariants as rows
use Rattle.book_core.specs.declared.refusal.VersionsRefused.{VersionsRefused}
use Rattle.book_core.specs.declared.refusal.VersionsRefused.TheVariants as versions
use Rattle.book_core.specs.declared.refusal.NoTable as missing
use Rattle.store_core.specs.declared.refusal.RangeRefused.{RangeRefused}
use Rattle.store_core.specs.declared.refusal.RangeRefused.TheVariants as range
use Rattle.match_core.specs.declared.columns.QueryRefused.{QueryRefused}
use Rattle.match_core.specs.declared.columns.QueryRefused.TheVariants as query
use Rattle.command_core.specs.declared.refusal.Refusal.{Refusal}
use Rattle.command_core.specs.declared.refusal.Refusal.TheVariants.{BadNumber, BadPeriod, BadPoint, BadUtf8, Full, Future, KeyOverlap, NoColumn, NoTable, TableExists, TooLong, TooMany, WrongKind, WrongWidth}

-- The refusal of a row.
abbrev pub row_refusal : RowRefused → Refusal
row_refusal row.WrongWidth = WrongWidth
row_refusal row.BadPoint = BadPoint
row_refusal row.BadPeriod = BadPeriod
row_refusal row.BadNumber = BadNumber
row_refusal row.TooLong = TooLong
row_refusal row.BadUtf8 = BadUtf8

-- The refusal of a change.
abbrev pub book_refusal : BookRefused → Refusal
book_refusal book.TableExists = TableExists
book_refusal book.TooMany = TooMany
book_refusal book.Full = Full
book_refusal book.NoTable = NoTable
book_refusal book.NoColumn = NoColumn
book_refusal book.WrongKind = WrongKind
book_refusal book.KeyOverlap = KeyOverlap

-- The refusal of a value.
abbrev pub value_refusal : ValueRefused → Refusal
value_refusal value.BadNumber = BadNumber
value_refusal value.TooLong = TooLong
value_refusal value.BadUtf8 = BadUtf8

-- The refusal of a commit or a table whose rows are asked for.
abbrev pub rows_refusal : RowsRefused → Refusal
rows_refusal rows.Future = Future
rows_refusal rows.NoTable = NoTable

-- The refusal of versions.
abbrev pub versions_refusal : VersionsRefused → Refusal
versions_refusal versions.Future = Future
versions_refusal versions.BadPeriod = BadPeriod
versions_refusal versions.NoTable = NoTable

-- The refusal of a table in a snapshot.
abbrev pub table_refusal : missing.NoTable → Refusal
table_refusal refused = NoTable

-- The refusal of a range of commits in a snapshot.
abbrev pub range_refusal : RangeRefused → Refusal
range_refusal range.BadPeriod = BadPeriod
range_refusal range.NoTable = NoTable

-- The refusal of the columns that tables are compared or aggregated by.
abbrev pub query_refusal : QueryRefused → Refusal
query_refusal query.NoColumn = NoColumn
query_refusal query.WrongKind = WrongKind
