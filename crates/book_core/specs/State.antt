-- States: tables with their current rows, and how a change affects them. A state has no commit numbers and no system
-- periods.
use Rattle.std.specs.Prelude.{◌≢◌, ℕ, ◌+◌, List, [], ◌∷◌, ◌++◌, length, map, filter, find, Bool, false, ◌||◌, not, if◌then◌else◌, Option, Some, None, is_none, option_map, flat_map, nat_le, nat_lt, unwrap_or, ◌≡◌, ◌⊎◌, Result, Err, bytes_eq}
use Rattle.std.specs.List.{list_all}
use Rattle.row_core.specs.Refusals.{first_of}
use Rattle.row_core.specs.Schema.{fits, key_of, kind_in}
use Rattle.row_core.specs.Value.{kind_of, same_kind}
use Rattle.row_core.specs.declared.failure.Failure.{Failure}
use Rattle.row_core.specs.declared.failure.Failure.TheVariants.{Refused, NoMemory}
use Rattle.row_core.specs.declared.row.Row.{Row}
use Rattle.row_core.specs.declared.schema.Column.{Column}
use Rattle.version_core.specs.Collisions.{AreWithoutOverlaps}
use Rattle.version_core.specs.Limits.{version_limit}
use Rattle.book_core.specs.Limits.{commit_limit, table_limit}
use Rattle.table_core.specs.Numbered.{numbered, unnumbered}
use Rattle.book_core.specs.Rows.{Pair, removes, drafts_of}
use Rattle.version_core.specs.Keys.{break_key}
use Rattle.book_core.specs.declared.change.Change.{Change}
use Rattle.book_core.specs.declared.change.Change.TheVariants.{Make, Load, Update, Delete}
use Rattle.version_core.specs.declared.keys.KeyOverlap as keys
use Rattle.book_core.specs.declared.refusal.BookRefused.{BookRefused}
use Rattle.book_core.specs.declared.refusal.BookRefused.TheVariants.{TableExists, TooMany, Full, NoTable, NoColumn, WrongKind, KeyOverlap}

-- a table: its columns, how many ids it has used, and its current rows by rising id
pub record Table : Type 0 where
  pub name : List ℕ
  pub schema : List Column
  pub used : ℕ
  pub rows : List Row

-- the tables, in the order of their creation
abbrev pub State : Type 0
State = List Table

-- the table with that name
abbrev pub table_of : State → List ℕ → Option Table
table_of s name = find (λ t. bytes_eq t.name name) s

-- the rows of the table with that name; no rows without such a table
abbrev pub rows_of : State → List ℕ → List Row
rows_of s name = unwrap_or (option_map (λ t. t.rows) (table_of s name)) []

-- the state with the named table replaced
abbrev pub at_table : List ℕ → (Table → Table) → State → State
at_table name f [] = []
at_table name f (t ∷ ts) = if bytes_eq t.name name then f t ∷ ts else t ∷ at_table name f ts

-- a table after a change of its rows
abbrev pub changed : Change → Table → Table
changed c t = let drafts = drafts_of c t.schema t.rows in record {
  name = t.name;
  schema = t.schema;
  used = t.used + length drafts;
  rows = filter (λ row. not (removes c t.schema row)) t.rows ++ numbered t.used drafts;
}

-- the table of a change
abbrev pub table_named : Change → List ℕ
table_named (Make table schema) = table
table_named (Load table rows) = table
table_named (Update table portion sets conds) = table
table_named (Delete table portion conds) = table

-- the state after a change
abbrev pub applied : State → Change → State
applied s (Make table schema) = s ++ record { name = table; schema = schema; used = 0; rows = [] } ∷ []
applied s c = at_table (table_named c) (changed c) s

-- the value is of the kind of its column
abbrev pub is_of_kind : List Column → Pair → Bool
is_of_kind schema pair = unwrap_or (option_map (λ kind. same_kind kind (kind_of pair.1)) (kind_in schema pair.0)) false

-- the tests of a pair in a change
abbrev pub pair_tests : List Column → Pair → List (Bool × BookRefused)
pair_tests schema pair = (is_none (kind_in schema pair.0), NoColumn) ∷ (not (is_of_kind schema pair), WrongKind) ∷ []

-- no commit may follow n others, or a table would have too many versions
abbrev pub full_tests : ℕ → ℕ → List (Bool × BookRefused)
full_tests n used = (nat_le commit_limit n || nat_lt version_limit used, Full) ∷ []

-- the tests of a change once its table is found, in this order
abbrev pub tests_of : ℕ → Change → Table → List (Bool × BookRefused)
tests_of n (Make table schema) t = []
tests_of n (Load table rows) t =
    (not (list_all (λ d. fits t.schema d.values) rows), WrongKind)
    ∷ full_tests n (changed (Load table rows) t).used
tests_of n (Update table portion sets conds) t =
    flat_map (pair_tests t.schema) (sets ++ conds)
    ++ full_tests n (changed (Update table portion sets conds) t).used
tests_of n (Delete table portion conds) t =
    flat_map (pair_tests t.schema) conds
    ++ full_tests n (changed (Delete table portion conds) t).used

-- a test of a table; without a table it is NoTable
abbrev pub with_table : Option Table → (Table → Option BookRefused) → Option BookRefused
with_table None f = Some NoTable
with_table (Some t) f = f t

-- two rows of the table have the same key and overlap
abbrev pub breaks_key : Table → Bool
breaks_key t = break_key (key_of t.schema) (map unnumbered t.rows)

-- if the table has a key, no two of its rows at different indexes are equal in each column of the key and have a common
-- instant
abbrev pub KeyHolds : Table → Type 0
KeyHolds t = key_of t.schema ≢ [] → AreWithoutOverlaps (key_of t.schema) (map unnumbered t.rows)

-- the change, a load or an update, leaves such rows in its table
abbrev pub leaves_overlap : Change → Option Table → Bool
leaves_overlap c None = false
leaves_overlap (Make table schema) (Some t) = false
leaves_overlap (Load table rows) (Some t) = breaks_key (changed (Load table rows) t)
leaves_overlap (Update table portion sets conds) (Some t) = breaks_key (changed (Update table portion sets conds) t)
leaves_overlap (Delete table portion conds) (Some t) = false

-- the first reason to refuse a change in the state after n commits, except an overlap of keys
abbrev pub first_refusal : ℕ → State → Change → Option BookRefused
first_refusal n s (Make table schema) =
    first_of ((not (is_none (table_of s table)), TableExists) ∷ (nat_le table_limit (length s), TooMany) ∷
    (nat_le commit_limit n, Full) ∷ [])
first_refusal n s c = with_table (table_of s (table_named c)) (λ t. first_of (tests_of n c t))

-- that reason, or otherwise an overlap of keys
abbrev pub or_overlap : Option BookRefused → Bool → Option BookRefused
or_overlap (Some refused) overlap = Some refused
or_overlap None overlap = if overlap then Some KeyOverlap else None

-- the first reason to refuse a change in the state after n commits, or `None` if it is accepted
abbrev pub refusal_of : ℕ → State → Change → Option BookRefused
refusal_of n s c = or_overlap (first_refusal n s c) (leaves_overlap c (table_of s (table_named c)))

-- the refusal of a change whose rows' keys overlap
abbrev pub overlap_refusal : keys.KeyOverlap → BookRefused
overlap_refusal overlap = KeyOverlap

-- the refusal with that name; `NoMemory` may replace KeyOverlap
abbrev pub IsRefusedAs : {T : Type 0} → Result T (Failure BookRefused) → BookRefused → Type 0
IsRefusedAs result name = (result ≡ Err (Refused name)) ⊎ ((name ≡ KeyOverlap) × (result ≡ Err NoMemory))
