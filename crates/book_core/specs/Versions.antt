-- Versions and the log, defined by a history only.
use Rattle.std.specs.Prelude.{ℕ, ◌+◌, ◌≤◌, ◌<◌, List, [], ◌∷◌, map, Option, MatchOption, Contains, count_by, not, nat_eq}
use Rattle.std.specs.List.{list_any}
use Rattle.list_core.specs.Wanted.{IsListOf}
use Rattle.row_core.specs.declared.row.Row.{Row}
use Rattle.book_core.specs.declared.change.Change.{Change}
use Rattle.book_core.specs.declared.change.Change.TheVariants.{Make, Load, Update, Delete}
use Rattle.version_core.specs.declared.version.Version.{Version}
use Rattle.book_core.specs.State.{table_named}
use Rattle.book_core.specs.History.{History, rows_at}
use Rattle.book_core.specs.declared.commit.Commit.{Commit}
use Rattle.book_core.specs.declared.log.ChangeKind.{ChangeKind}
use Rattle.book_core.specs.declared.log.ChangeKind.TheVariants as kind
use Rattle.book_core.specs.declared.log.Entry.{Entry}

-- a row of the table as of commit n has the id
abbrev pub HasId : History → List ℕ → ℕ → ℕ → Type 0
HasId h name n id = Contains (map (λ row. row.id) (rows_at h n name)) id

-- the version as of commit `at`: it starts at the least commit with its id, and ends at the least later commit without
-- the id, or is open if there is no such commit
pub record IsVersion (h : History) (at : ℕ) (name : List ℕ) (v : Version) : Type 0 where
  pub within : v.sysfrom ≤ at
  pub row : Contains (rows_at h v.sysfrom name) v.row
  pub first : (n : ℕ) → n < v.sysfrom → HasId h name n v.row.id → ⊥
  pub end : MatchOption v.systo
      ((n : ℕ) → v.sysfrom ≤ n → n ≤ at → HasId h name n v.row.id)
      (λ to. (v.sysfrom < to) × (to ≤ at) × (HasId h name to v.row.id → ⊥)
      × ((n : ℕ) → v.sysfrom ≤ n → n < to → HasId h name n v.row.id))

-- an open end is after every commit
abbrev pub IsAfter : Option ℕ → ℕ → Type 0
IsAfter systo m = MatchOption systo (Unit {0}) (λ to. m < to)

-- the selected versions as of commit `at`, each once, by rising id
abbrev pub AreVersions : History → ℕ → List ℕ → (Version → Type 0) → List Version → Type 0
AreVersions h at name Selected vs = IsListOf (λ v w. v.row.id < w.row.id) (λ v. IsVersion h at name v × Selected v) vs

-- the versions visible as of some commit from m to n
abbrev pub AreBetween : History → ℕ → ℕ → ℕ → List ℕ → List Version → Type 0
AreBetween h at m n name vs = AreVersions h at name (λ v. (v.sysfrom ≤ n) × IsAfter v.systo m) vs

-- the versions visible as of some commit from m on and before n
abbrev pub AreFromTo : History → ℕ → ℕ → ℕ → List ℕ → List Version → Type 0
AreFromTo h at m n name vs = AreVersions h at name (λ v. (v.sysfrom < n) × IsAfter v.systo m) vs

-- how many rows of xs have an id that no row of ys has
abbrev pub new_ids : List Row → List Row → ℕ
new_ids xs ys = count_by (λ x. not (list_any (λ y. nat_eq y.id x.id) ys)) xs

-- the kind of a change
abbrev pub change_kind : Change → ChangeKind
change_kind (Make table schema) = kind.Make
change_kind (Load table rows) = kind.Load
change_kind (Update table portion sets conds) = kind.Update
change_kind (Delete table portion conds) = kind.Delete

-- the log's entry of commit n + 1: its caller, and the numbers of versions that it added and closed
abbrev pub entry_at : History → ℕ → Commit → Entry
entry_at h n c = let table = table_named c.change in record {
  number = n + 1;
  by = c.by;
  kind = change_kind c.change;
  table = table;
  added = new_ids (rows_at h (n + 1) table) (rows_at h n table);
  closed = new_ids (rows_at h n table) (rows_at h (n + 1) table);
}

-- the entries of the commits that follow the first n
abbrev pub entries_from : History → ℕ → History → List Entry
entries_from h n [] = []
entries_from h n (c ∷ cs) = entry_at h n c ∷ entries_from h (n + 1) cs

-- one entry for each commit of a history, oldest first
abbrev pub log_of : History → List Entry
log_of h = entries_from h 0 h
