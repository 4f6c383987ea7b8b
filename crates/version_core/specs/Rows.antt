-- Which rows a change of a table removes, and what replaces them.
use Rattle.std.specs.Prelude.{List, [], filter, Bool, false, flat_map}
use Rattle.version_core.specs.Portion.{parts_of as parts_by_place, takes_out}
use Rattle.row_core.specs.declared.draft.Draft.{Draft}
use Rattle.row_core.specs.declared.row.Row.{Row}
use Rattle.version_core.specs.declared.change.RowsChange.{RowsChange}
use Rattle.version_core.specs.declared.change.RowsChange.TheVariants.{Load, Portion}

-- the change removes the row
abbrev pub removes : RowsChange → Row → Bool
removes (Load rows) row = false
removes (Portion change) row = takes_out change row

-- what replaces a removed row
abbrev pub parts_of : RowsChange → Row → List Draft
parts_of (Load rows) row = []
parts_of (Portion change) row = parts_by_place change row

-- what replaces all rows that a change removes
abbrev pub parts_of_all : RowsChange → List Row → List Draft
parts_of_all c rows = flat_map (parts_of c) (filter (removes c) rows)

-- all new rows of a change
abbrev pub drafts_of : RowsChange → List Row → List Draft
drafts_of (Load drafts) rows = drafts
drafts_of (Portion change) rows = parts_of_all (Portion change) rows

-- all new rows of a change, if `parts` replace the removed rows
abbrev pub with_parts : RowsChange → List Draft → List Draft
with_parts (Load drafts) parts = drafts
with_parts (Portion change) parts = parts
