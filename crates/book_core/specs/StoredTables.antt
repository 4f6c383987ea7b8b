-- How the book stores its tables: with all versions of their rows.
use Rattle.std.specs.Prelude.{◌≡◌, ℕ, ◌+◌, ◌≤◌, ◌<◌, List, [], ◌∷◌, ◌++◌, length, map, Bool, true, if◌then◌else◌, Option, Some, None, find, IfSome, count_by, false, option_map, bytes_eq}
use Rattle.std.specs.List.{AllByRecursion}
use Rattle.row_core.specs.Schema.{fits, key_of}
use Rattle.row_core.specs.declared.schema.Column.{Column}
use Rattle.version_core.specs.Limits.{version_limit}
use Rattle.table_core.specs.Numbered.{numbered, unnumbered}
use Rattle.book_core.specs.Rows.{drafts_of, removes}
use Rattle.version_core.specs.Shown.{shown}
use Rattle.version_core.specs.Made.{made}
use Rattle.version_core.specs.OpenVersions.{closed, current}
use Rattle.version_core.specs.Keys.{break_key}
use Rattle.book_core.specs.declared.change.Change.{Change}
use Rattle.book_core.specs.declared.change.Change.TheVariants.{Make, Load, Update, Delete}
use Rattle.version_core.specs.declared.version.Version.{Version}
use Rattle.book_core.specs.State.{Table, table_of, changed, table_named, leaves_overlap}
use Rattle.book_core.specs.History.{History, IsLegal, state_after, rows_at}
use Rattle.book_core.specs.Versions.{log_of}
use Rattle.book_core.specs.declared.log.Entry.{Entry}

-- a table as it is stored
pub record StoredTable : Type 0 where
  pub name : List ℕ
  pub schema : List Column
  pub versions : List Version

-- the stored table with that name
abbrev pub kept_table : List ℕ → List StoredTable → Option StoredTable
kept_table name ts = find (λ t. bytes_eq t.name name) ts

-- a table as of commit n
abbrev pub table_at : ℕ → StoredTable → Table
table_at n t = record { name = t.name; schema = t.schema; used = length t.versions; rows = shown n t.versions }

-- a table after commit n + 1
abbrev pub kept_table_after : ℕ → Change → StoredTable → StoredTable
kept_table_after n c t = record {
  name = t.name;
  schema = t.schema;
  versions = map (closed (n + 1) (removes c t.schema)) t.versions
      ++ made (n + 1) (numbered (length t.versions) (drafts_of c t.schema (shown n t.versions)));
}

-- the tables with the first one of that name replaced
abbrev pub at_kept : List ℕ → (StoredTable → StoredTable) → List StoredTable → List StoredTable
at_kept name f [] = []
at_kept name f (t ∷ ts) = if bytes_eq t.name name then f t ∷ ts else t ∷ at_kept name f ts

-- the tables after commit n + 1
abbrev pub kept_tables_after : ℕ → List StoredTable → Change → List StoredTable
kept_tables_after n ts (Make table schema) = ts ++ record { name = table; schema = schema; versions = [] } ∷ []
kept_tables_after n ts (Load table rows) = at_kept table (kept_table_after n (Load table rows)) ts
kept_tables_after n ts (Update table portion sets conds) =
    at_kept table (kept_table_after n (Update table portion sets conds)) ts
kept_tables_after n ts (Delete table portion conds) = at_kept table (kept_table_after n (Delete table portion conds)) ts

-- the tables after the commits that follow the first n
abbrev pub kept_tables_from : ℕ → List StoredTable → History → List StoredTable
kept_tables_from n ts [] = ts
kept_tables_from n ts (c ∷ cs) = kept_tables_from (n + 1) (kept_tables_after n ts c.change) cs

-- how many versions commit n + 1 adds to the table
abbrev pub added_in : ℕ → Change → Option StoredTable → ℕ
added_in n c None = 0
added_in n c (Some t) = length (drafts_of c t.schema (shown n t.versions))

-- how many versions it closes
abbrev pub closed_in : ℕ → Change → Option StoredTable → ℕ
closed_in n c None = 0
closed_in n c (Some t) = count_by (removes c t.schema) (shown n t.versions)

-- the tables of a book with that history
pub record AreKept (h : History) (ts : List StoredTable) : Type 0 where
  pub legal : IsLegal h
  pub tables : ts ≡ kept_tables_from 0 [] h

-- what a book stores with its history
pub record IsBook (h : History) (ts : List StoredTable) (log : List Entry) : Type 0 where
  pub kept : AreKept h ts
  pub logged : log ≡ log_of h

-- the table will have at most a million versions after the change
abbrev pub HasRoomIn : ℕ → Change → StoredTable → Type 0
HasRoomIn n (Make table schema) t = Unit {0}
HasRoomIn n (Load table rows) t = (changed (Load table rows) (table_at n t)).used ≤ version_limit
HasRoomIn n (Update table portion sets conds) t =
    (changed (Update table portion sets conds) (table_at n t)).used ≤ version_limit
HasRoomIn n (Delete table portion conds) t = (changed (Delete table portion conds) (table_at n t)).used ≤ version_limit

-- the same of the change's table
abbrev pub HasRoom : ℕ → Change → List StoredTable → Type 0
HasRoom n c ts = IfSome (kept_table (table_named c) ts) (HasRoomIn n c)

-- the versions' ids are those after k, in order
abbrev pub IsNumbered : ℕ → List Version → Type 0
IsNumbered k [] = Unit {0}
IsNumbered k (v ∷ vs) = (v.row.id ≡ k + 1) × IsNumbered (k + 1) vs

-- the version's commits aren't after n, and it ends after it starts
pub record IsTimely (n : ℕ) (v : Version) : Type 0 where
  pub begun : v.sysfrom ≤ n
  pub ended : IfSome v.systo (λ to. (v.sysfrom < to) × (to ≤ n))

-- a table after n commits
pub record IsWellKept (n : ℕ) (t : StoredTable) : Type 0 where
  pub ids : IsNumbered 0 t.versions
  pub times : AllByRecursion (IsTimely n) t.versions

-- a table after accepted changes: it has at most a million versions, and their rows fit
pub record IsSound (t : StoredTable) : Type 0 where
  pub few : length t.versions ≤ version_limit
  pub fit : AllByRecursion (λ (v : Version). fits t.schema v.row.values ≡ true) t.versions

-- the stored table is the one with that name
pub record IsTableOf (h : History) (name : List ℕ) (t : StoredTable) : Type 0 where
  pub newest : table_of (state_after h) name ≡ Some (table_at (length h) t)
  pub past : (n : ℕ) → n ≤ length h → rows_at h n name ≡ shown n t.versions
  pub well : IsWellKept (length h) t
  pub sound : IsSound t

-- no two rows of the table are equal in each column of its key and overlap
abbrev pub IsUnbroken : StoredTable → Type 0
IsUnbroken t = break_key (key_of t.schema) (map unnumbered (current t.versions)) ≡ false

-- the change leaves such rows in its table
abbrev pub overlap_in : ℕ → Change → Option StoredTable → Bool
overlap_in n c o = leaves_overlap c (option_map (table_at n) o)
