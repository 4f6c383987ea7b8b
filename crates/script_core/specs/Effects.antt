-- The history after a script's changes, and what its queries read.
use Rattle.std.specs.Prelude.{ℕ, ◌+◌, List, [], ◌∷◌, ◌++◌, Bool, Option, Some, None, Result, Err, codes, drop, length, option_map, unwrap_or, if◌then◌else◌}
use Rattle.std.specs.List.{enumerate_from}
use Rattle.std.specs.Option.{ok_or}
use Rattle.period_core.specs.declared.period.Period.{Period}
use Rattle.row_core.specs.Reading as reading
use Rattle.row_core.specs.Refusals.{and_then, map_err, map_ok, read_each, refused_or}
use Rattle.row_core.specs.Schema.{kind_in}
use Rattle.row_core.specs.Value.{value_of}
use Rattle.row_core.specs.declared.draft.Draft.{Draft}
use Rattle.row_core.specs.declared.row.Row.{Row}
use Rattle.row_core.specs.declared.schema.Column.{Column}
use Rattle.row_core.specs.declared.value.Kind.{Kind}
use Rattle.book_core.specs.History.{History, rows_given, schema_in, state_after}
use Rattle.book_core.specs.History as history
use Rattle.book_core.specs.Rows.{Pair}
use Rattle.book_core.specs.State.{refusal_of}
use Rattle.book_core.specs.declared.change.Change.{Change}
use Rattle.book_core.specs.declared.change.Change.TheVariants as change
use Rattle.command_core.specs.Fields.{natural_in}
use Rattle.match_core.specs.Columns.{columns_refusal}
use Rattle.command_core.specs.Pairs.{Compared, TextPair}
use Rattle.command_core.specs.Records.{Record}
use Rattle.command_core.specs.Refusal.{fault}
use Rattle.command_core.specs.Words.{begins}
use Rattle.command_core.specs.declared.aggregate.Aggregate.{Aggregate}
use Rattle.agg_core.specs.Agg.{agg_refusal}
use Rattle.command_core.specs.declared.refusal.Fault.{Fault}
use Rattle.command_core.specs.declared.refusal.Refusal.{Refusal}
use Rattle.command_core.specs.declared.refusal.Refusal.TheVariants.{BadCommand, NoColumn, NoTable}
use Rattle.script_core.specs.Refusal.{book_refusal, query_refusal, row_refusal, rows_refusal, value_refusal, versions_refusal}

-- ---- changes

-- The history with one more change, made by a script's only pass, or the fault of the command of this number.
abbrev pub change_in : ℕ → History → Change → Result History Fault
change_in number h c =
    refused_or (option_map (λ refused. fault number (book_refusal refused)) (refusal_of (length h) (state_after h) c))
    (h ++ record { by = 1; change = c } ∷ [])

-- The history with a new table.
abbrev pub make_in : ℕ → History → List ℕ → List Column → Result History Fault
make_in number h name columns = change_in number h (change.Make name columns)

-- A table's columns, or the fault of the command of this number.
abbrev pub columns_or_fault : ℕ → History → List ℕ → Result (List Column) Fault
columns_or_fault number h name = ok_or (schema_in h name) (fault number NoTable)

-- The values of numbered records, each read by itself, or the first fault.
abbrev pub each_or_fault : {T : Type 0} → (Record → Result T Refusal) → List (ℕ × Record) → Result (List T) Fault
each_or_fault read lines = read_each (λ line. map_err (fault line.0) (read line.1)) lines

-- The values of records, or the first fault. `number` is the number of the first record.
abbrev pub all_or_fault : {T : Type 0} → (Record → Result T Refusal) → ℕ → List Record → Result (List T) Fault
all_or_fault read number lines = each_or_fault read (enumerate_from number lines)

-- The row that a record of a load gives.
abbrev pub loaded_row : List Column → Record → Result Draft Refusal
loaded_row columns line =
    if begins (codes "row") line then map_err row_refusal (reading.row_of columns (drop 1 line))
    else Err BadCommand

-- The rows of a load's records, or the first fault. `number` is the number of the first record.
abbrev pub loaded_rows : List Column → ℕ → List Record → Result (List Draft) Fault
loaded_rows columns number lines = all_or_fault (loaded_row columns) number lines

-- The rows of a load's records, or the fault of the load or of a record.
abbrev pub load_or_fault : ℕ → History → List ℕ → List Record → Result (List Draft) Fault
load_or_fault number h name body =
    and_then (columns_or_fault number h name) (λ columns. loaded_rows columns (number + 1) body)

-- The history with a load's rows added to a table.
abbrev pub load_in : ℕ → History → List ℕ → List Record → Result History Fault
load_in number h name body =
    and_then (load_or_fault number h name body) (λ rows. change_in number h (change.Load name rows))

-- A name, with the value that a text spells in a column of this kind.
abbrev pub named_value : List ℕ → List ℕ → Option Kind → Result Pair Refusal
named_value name text None = Err NoColumn
named_value name text (Some kind) = map_ok (λ value. (name, value)) (map_err value_refusal (value_of kind text))

-- The value of a pair, by the table's columns.
abbrev pub pair_read : List Column → TextPair → Result Pair Refusal
pair_read columns pair = named_value pair.0 pair.1 (kind_in columns pair.0)

-- The values of pairs in a table's columns, or the first refusal from the left.
abbrev pub pairs_read : List Column → List TextPair → Result (List Pair) Refusal
pairs_read columns pairs = read_each (pair_read columns) pairs

-- The same, with the fault of the command of this number.
abbrev pub pairs_or_fault : ℕ → List Column → List TextPair → Result (List Pair) Fault
pairs_or_fault number columns pairs = map_err (fault number) (pairs_read columns pairs)

-- The history with values set in a portion of a table's rows.
abbrev pub update_in : ℕ → History → List ℕ → Period → List TextPair → List TextPair → Result History Fault
update_in number h name portion sets conds =
    and_then (columns_or_fault number h name) (λ columns.
    and_then (pairs_or_fault number columns sets) (λ settings.
    and_then (pairs_or_fault number columns conds) (λ conditions.
    change_in number h (change.Update name portion settings conditions))))

-- The history with a portion of a table's rows removed.
abbrev pub delete_in : ℕ → History → List ℕ → Period → List TextPair → Result History Fault
delete_in number h name portion conds =
    and_then (columns_or_fault number h name) (λ columns.
    and_then (pairs_or_fault number columns conds) (λ conditions.
    change_in number h (change.Delete name portion conditions)))

-- ---- queries

-- The rows of a table that a commit shows, or the fault of the command of this number. Without a commit's number, the
-- newest commit shows them.
abbrev pub rows_or_fault : ℕ → History → Option ℕ → List ℕ → Result (List Row) Fault
rows_or_fault number h asof name =
    map_err (λ refused. fault number (rows_refusal refused)) (rows_given h (unwrap_or asof (length h)) name)

-- A table: its columns and its rows.
abbrev pub TableRows : Type 0
TableRows = List Column × List Row

-- A table with the rows that a commit shows, or the fault of the command of this number. Without a commit's number, the
-- newest commit shows them.
abbrev pub table_or_fault : ℕ → History → Option ℕ → List ℕ → Result TableRows Fault
table_or_fault number h asof name =
    and_then (rows_or_fault number h asof name) (λ rows. map_ok (λ columns. (columns, rows)) (columns_or_fault number h name))

-- Two tables that may be compared, or the fault of the command of this number. The left table is tested first, then the
-- right one, then the columns.
abbrev pub sides_or_fault : ℕ → History → Option ℕ → Compared → Result (TableRows × TableRows) Fault
sides_or_fault number h asof tables =
    and_then (table_or_fault number h asof tables.left) (λ left.
    and_then (table_or_fault number h asof tables.right) (λ right.
    refused_or
    (option_map (λ refused. fault number (query_refusal refused)) (columns_refusal left.0 right.0 tables.on))
    (left, right)))

-- A table that may be aggregated, or the fault of the command of this number. The table is tested before the columns.
abbrev pub aggregated_or_fault : ℕ → History → Option ℕ → Aggregate → Result TableRows Fault
aggregated_or_fault number h asof asked =
    and_then (table_or_fault number h asof asked.table) (λ table.
    refused_or
    (option_map (λ refused. fault number (query_refusal refused)) (agg_refusal table.0 asked.func asked.by))
    table)

-- The versions of a table may be read, or the fault of the command of this number. `is_bad` says that the two commits
-- aren't in order.
abbrev pub versions_or_fault : ℕ → History → Bool → List ℕ → Result (Unit {0}) Fault
versions_or_fault number h is_bad name =
    refused_or
    (option_map (λ refused. fault number (versions_refusal refused))
    (history.between_refusal h (length h) is_bad name)) tt

-- The numbers that fields spell.
abbrev pub naturals_in : Record → Result (List ℕ) Refusal
naturals_in texts = read_each natural_in texts

-- The ids of the part that a record claims.
abbrev pub part_of : Record → Result (List ℕ) Refusal
part_of line = if begins (codes "part") line then naturals_in (drop 1 line) else Err BadCommand

-- The parts that a check's records claim, or the first fault. `number` is the number of the first record.
abbrev pub claim_of : ℕ → List Record → Result (List (List ℕ)) Fault
claim_of number lines = all_or_fault part_of number lines
