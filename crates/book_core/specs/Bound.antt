-- A change given by column indexes, which corresponds to one given by names.
use Rattle.std.specs.Prelude.{◌≡◌, ◌≢◌, ℕ, ◌+◌, ◌++◌, List, [], length, unwrap_or, Bool, Option, Some, None, Result, IfErr, IfOk, OnErr, OnOk, false, filter, flat_map, true}
use Rattle.period_core.specs.declared.period.Period.{Period}
use Rattle.row_core.specs.declared.draft.Draft.{Draft}
use Rattle.row_core.specs.declared.failure.Failure.{Failure}
use Rattle.row_core.specs.declared.failure.Failure.TheVariants.{NoMemory}
use Rattle.row_core.specs.declared.row.Row.{Row}
use Rattle.row_core.specs.declared.schema.Column.{Column}
use Rattle.version_core.specs.declared.portion_change.PortionChange.{PortionChange}
use Rattle.version_core.specs.Rows as by_place
use Rattle.version_core.specs.declared.change.RowsChange.{RowsChange}
use Rattle.version_core.specs.declared.change.RowsChange.TheVariants as rows
use Rattle.version_core.specs.declared.keys.KeyOverlap.{KeyOverlap}
use Rattle.version_core.specs.declared.versions.VersionCounts.{VersionCounts}
use Rattle.book_core.specs.Rows.{Pair, drafts_of, is_touched, parts_within, removes}
use Rattle.book_core.specs.State.{Table, full_tests, pair_tests, table_named}
use Rattle.book_core.specs.StoredTables.{StoredTable, added_in, closed_in, kept_table, kept_tables_after, overlap_in}
use Rattle.book_core.specs.declared.change.Change.{Change}
use Rattle.book_core.specs.declared.change.Change.TheVariants.{Make, Load, Update, Delete}
use Rattle.book_core.specs.declared.refusal.BookRefused.{BookRefused}

-- the change removes the rows that `goes` accepts, and adds the rows that `makes` returns
pub record Does (goes : Row → Bool) (makes : List Row → List Draft) (r : RowsChange) : Type 0 where
  pub out : (row : Row) → by_place.removes r row ≡ goes row
  pub new : (now : List Row) → by_place.drafts_of r now ≡ makes now

-- it has the same effect as the change by names on a table with these columns
abbrev pub DoesTheSame : Change → List Column → RowsChange → Type 0
DoesTheSame c schema r = Does (removes c schema) (drafts_of c schema) r

-- what replaces the rows that a change of a portion removes
abbrev pub portion_parts : List Column → Period → Option (List Pair) → List Pair → List Row → List Draft
portion_parts schema portion sets conds now =
    flat_map (parts_within portion sets schema) (filter (is_touched schema portion conds) now)

-- the tests of such a change, in this order
abbrev pub portion_tests : ℕ → Period → Option (List Pair) → List Pair → Table → List (Bool × BookRefused)
portion_tests n portion sets conds t =
    flat_map (pair_tests t.schema) (unwrap_or sets [] ++ conds)
    ++ full_tests n (t.used + length (portion_parts t.schema portion sets conds t.rows))

-- a change of a portion; without one, a load of no rows
abbrev pub rows_changed : Option PortionChange → RowsChange
rows_changed None = rows.Load []
rows_changed (Some change) = rows.Portion change

-- what a change is bound to for a table with these columns. A change of a portion is bound to one with the same effect,
-- or to `None` if no row meets all its conditions
abbrev pub IsBound : Change → List Column → Option PortionChange → Type 0
IsBound (Make table made) schema bound = bound ≡ None
IsBound (Load table drafts) schema bound = bound ≡ None
IsBound (Update table portion sets conds) schema bound =
    DoesTheSame (Update table portion sets conds) schema (rows_changed bound)
IsBound (Delete table portion conds) schema bound =
    DoesTheSame (Delete table portion conds) schema (rows_changed bound)

-- the change is one of a table's rows
abbrev pub IsOfRows : Change → Type 0
IsOfRows (Make table made) = ⊥
IsOfRows (Load table drafts) = Unit {0}
IsOfRows (Update table portion sets conds) = Unit {0}
IsOfRows (Delete table portion conds) = Unit {0}

-- commit n + 1 makes the change in the tables, unless rows with the same key would overlap or memory is refused
pub record IsMade (n : ℕ) (c : Change) (old now : List StoredTable)
    (result : Result VersionCounts (Failure KeyOverlap)) : Type 0 where
  pub ok : OnOk result (now ≡ kept_tables_after n old c)
  pub added : IfOk result (λ counts. counts.added ≡ added_in n c (kept_table (table_named c) old))
  pub closed : IfOk result (λ counts. counts.closed ≡ closed_in n c (kept_table (table_named c) old))
  pub apart : OnOk result (overlap_in n c (kept_table (table_named c) old) ≡ false)
  pub overlap : IfErr result (λ why. why ≢ NoMemory → overlap_in n c (kept_table (table_named c) old) ≡ true)
  pub kept : OnErr result (now ≡ old)
