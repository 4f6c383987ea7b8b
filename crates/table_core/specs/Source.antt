-- The rows that lists share.
use Rattle.std.specs.Prelude.{List}
use Rattle.std.specs.Arc.{arc_value}
use Rattle.row_core.specs.declared.row.Row.{Row}
use Rattle.table_core.specs.Numbered.{numbered}
use Rattle.table_core.specs.declared.source.Source.{Source}
use Rattle.table_core.specs.declared.source.Source.TheVariants as source

-- all shared rows
abbrev pub rows_from : Source → List Row
rows_from (source.Numbered drafts) = numbered 0 (arc_value drafts)
rows_from (source.WithIds rows) = arc_value rows
