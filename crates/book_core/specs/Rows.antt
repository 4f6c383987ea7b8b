-- Which rows a change of a table removes, and what replaces them; columns are given by name.
use Rattle.std.specs.Prelude.{ℕ, List, [], ◌++◌, filter, fold, Bool, false, ◌&&◌, Option, Some, None, is_some, option_map, option_and_then, slice_get, slice_set, flat_map, unwrap_or}
use Rattle.std.specs.List.{list_all}
use Rattle.period_core.specs.Period.{before, meet, after as later}
use Rattle.period_core.specs.declared.period.Period.{Period}
use Rattle.row_core.specs.Schema.{column_of}
use Rattle.row_core.specs.ValueOrder.{same_value}
use Rattle.row_core.specs.declared.draft.Draft.{Draft}
use Rattle.row_core.specs.declared.row.Row.{Row}
use Rattle.row_core.specs.declared.schema.Column.{Column}
use Rattle.row_core.specs.declared.value.Value.{Value}
use Rattle.version_core.specs.Portion.{part}
use Rattle.book_core.specs.declared.change.Change.{Change}
use Rattle.book_core.specs.declared.change.Change.TheVariants.{Make, Load, Update, Delete}

-- a pair of a column's name and a value
abbrev pub Pair : Type 0
Pair = List ℕ × Value

-- a row's value in the pair's column equals the pair's value
abbrev pub is_equal_at : List Column → List Value → Pair → Bool
is_equal_at schema values pair =
    unwrap_or (option_map (same_value pair.1) (option_and_then (slice_get values) (column_of schema pair.0))) false

-- the values, with the pair's value in the pair's column
abbrev pub set_at : List Column → List Value → Pair → List Value
set_at schema values pair = unwrap_or (option_map (λ i. slice_set values i pair.1) (column_of schema pair.0)) values

-- the row meets all conditions and overlaps the portion
abbrev pub is_touched : List Column → Period → List Pair → Row → Bool
is_touched schema portion conds row =
    list_all (is_equal_at schema row.values) conds && is_some (meet row.period portion)

-- the change removes the row
abbrev pub removes : Change → List Column → Row → Bool
removes (Update table portion sets conds) columns row = is_touched columns portion conds row
removes (Delete table portion conds) columns row = is_touched columns portion conds row
removes c columns row = false

-- what a change makes of a row's part inside the portion: the part with the settings, applied from left to right, or
-- nothing
abbrev pub inside_set : List Column → Option (List Pair) → Option Period → List Value → List Draft
inside_set schema None period values = []
inside_set schema (Some sets) period values = part period (fold (set_at schema) values sets)

-- what replaces a row that a change of the portion removes: its parts before, inside and after the portion
abbrev pub parts_within : Period → Option (List Pair) → List Column → Row → List Draft
parts_within portion sets columns row =
    part (before row.period portion) row.values
    ++ (inside_set columns sets (meet row.period portion) row.values
    ++ part (later row.period portion) row.values)

-- what replaces a removed row
abbrev pub parts_of : Change → List Column → Row → List Draft
parts_of (Update table portion sets conds) columns row = parts_within portion (Some sets) columns row
parts_of (Delete table portion conds) columns row = parts_within portion None columns row
parts_of c columns row = []

-- what replaces all rows that a change removes
abbrev pub parts_of_all : Change → List Column → List Row → List Draft
parts_of_all c columns rows = flat_map (parts_of c columns) (filter (removes c columns) rows)

-- all new rows of a change
abbrev pub drafts_of : Change → List Column → List Row → List Draft
drafts_of (Make table schema) columns rows = []
drafts_of (Load table drafts) columns rows = drafts
drafts_of c columns rows = parts_of_all c columns rows
