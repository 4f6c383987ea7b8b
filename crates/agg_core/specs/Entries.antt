-- Rows sorted by the values that they are grouped by.
use Rattle.std.specs.Prelude.{◌≡◌, ◌<◌, ℕ, ℤ, List, length, map, All, AllPairs, false, Option, Some, option_and_then, option_map, slice_get, slice_index_or, IsPermutation}
use Rattle.std.specs.List.{AllZip}
use Rattle.std.specs.Ordering.{is_lt}
use Rattle.draft_core.specs.Lent.{no_draft}
use Rattle.row_core.specs.Schema.{column_of}
use Rattle.row_core.specs.Value.{kind_of}
use Rattle.row_core.specs.ValueOrder.{value_cmp}
use Rattle.row_core.specs.declared.row.Row.{Row}
use Rattle.row_core.specs.declared.schema.Column.{Column}
use Rattle.row_core.specs.declared.value.Kind.{Kind}
use Rattle.row_core.specs.declared.value.Value.{Value}
use Rattle.table_core.specs.Numbered.{row_of}
use Rattle.agg_core.specs.Agg.{amount_of_value}
use Rattle.agg_core.specs.Groups.{rows_of_group}
use Rattle.agg_core.specs.declared.entries.Entry.{Entry}

-- The index of a column, if one is named.
abbrev pub place_in : List Column → Option (List ℕ) → Option ℕ
place_in columns name = option_and_then (column_of columns) name

-- The row's value in the column at an index, if an index is given.
abbrev pub value_at_place : Option ℕ → Row → Option Value
value_at_place place row = option_and_then (slice_get row.values) place

-- The row's number in the column at an index.
abbrev pub amount_at : Option ℕ → Row → ℤ
amount_at place row = amount_of_value (value_at_place place row)

-- The kind of the row's value in the column at an index.
abbrev pub kind_at : ℕ → Row → Option Kind
kind_at place row = option_map kind_of (slice_get row.values place)

-- Each row has a value of the kind in the column at this index.
abbrev pub HaveValues : Kind → ℕ → List Row → Type 0
HaveValues kind place rows = All (λ row. kind_at place row ≡ Some kind) rows

-- The value by which an entry's row is grouped: the value of its key.
abbrev pub entry_value : {K : Type 0} → (K → Value) → Entry K → Value
entry_value value_of entry = value_of entry.key

-- The default for a row past the end of a list.
abbrev pub no_row : Row
no_row = row_of 0 no_draft

-- The row at an index.
abbrev pub row_at : List Row → ℕ → Row
row_at all place = slice_index_or all place no_row

-- An entry's row, among all rows.
abbrev pub entry_row : {K : Type 0} → List Row → Entry K → Row
entry_row all entry = row_at all entry.row

-- The entry of a row, by its value in the column at index `place`.
pub record IsEntry {K : Type 0} (value_of : K → Value) (all : List Row) (place : ℕ) (row : Row) (entry : Entry K)
    : Type 0 where
  pub row_is : slice_get all entry.row ≡ Some row
  pub value_is : slice_get row.values place ≡ Some (entry_value value_of entry)

-- The entries of some of the rows, in order.
abbrev pub AreEntries : {K : Type 0} → (K → Value) → List Row → ℕ → List Row → List (Entry K) → Type 0
AreEntries value_of all place rows entries = AllZip (IsEntry value_of all place) rows entries

-- The entries are in ascending order of value.
abbrev pub AreRising : {K : Type 0} → (K → Value) → List (Entry K) → Type 0
AreRising {K} value_of entries =
    AllPairs (λ (a b : Entry K). is_lt (value_cmp (entry_value value_of b) (entry_value value_of a)) ≡ false) entries

-- Each entry has a row.
abbrev pub HaveRows : {K : Type 0} → List Row → List (Entry K) → Type 0
HaveRows {K} all entries = All (λ (e : Entry K). e.row < length all) entries

-- Each entry's row is of the group of the entry's value.
abbrev pub AreInGroups : {K : Type 0} → (K → Value) → List Row → (Row → Option Value) → List (Entry K) → Type 0
AreInGroups {K} value_of all group_of entries =
    All (λ (e : Entry K). group_of (entry_row all e) ≡ Some (entry_value value_of e)) entries

-- The entries sorted by value. Each group's rows keep their order.
pub record AreEntriesSorted {K : Type 0} (value_of : K → Value) (old new : List (Entry K)) : Type 0 where
  pub rise : AreRising value_of new
  pub moved : IsPermutation old new
  pub kept : (all : List Row) (group_of : Row → Option Value) → AreInGroups value_of all group_of old
      → (group : Option Value)
      → rows_of_group group_of group (map (entry_row all) new) ≡ rows_of_group group_of group (map (entry_row all) old)
