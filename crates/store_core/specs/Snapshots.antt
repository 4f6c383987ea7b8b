-- The history that a snapshot was taken of, and what can be read from it.
use Rattle.std.specs.Prelude.{◌≡◌, ℕ, ◌<◌, ◌≤◌, List, [], ◌∷◌, length, Bool, Option, is_none, Result, Ok, Err}
use Rattle.std.specs.Arc.{arc_value}
use Rattle.std.specs.Option.{unwrap_or}
use Rattle.row_core.specs.Refusals.{first_of, refused_or}
use Rattle.row_core.specs.declared.failure.Failure.{Failure}
use Rattle.row_core.specs.declared.failure.Failure.TheVariants.{Refused, NoMemory}
use Rattle.row_core.specs.declared.row.Row.{Row}
use Rattle.book_core.specs.History.{History, rows_at, state_after}
use Rattle.book_core.specs.State.{table_of}
use Rattle.book_core.specs.declared.refusal.NoTable.{NoTable}
use Rattle.store_core.specs.declared.refusal.Future.{Future}
use Rattle.store_core.specs.declared.refusal.RangeRefused.{RangeRefused}
use Rattle.store_core.specs.declared.refusal.RangeRefused.TheVariants as range
use Rattle.store_core.specs.declared.snapshot.Snapshot.{Snapshot}

-- the history when the snapshot was taken
abbrev pub history : Snapshot → History
history snapshot = arc_value snapshot.book

-- how many of its first commits the snapshot shows
abbrev pub number_shown : Snapshot → ℕ
number_shown snapshot = snapshot.number

-- the requested number of commits: the one passed, or all
abbrev pub asked : History → Option ℕ → ℕ
asked h n = unwrap_or n (length h)

-- the snapshot of the first n commits of a history, if at most `most` may be shown; it is refused if n is greater
abbrev pub ShowsFirst : History → ℕ → ℕ → Result Snapshot (Failure Future) → Type 0
ShowsFirst h most n (Ok snapshot) = (history snapshot ≡ h) × (number_shown snapshot ≡ n) × (n ≤ most)
ShowsFirst h most n (Err (Refused future)) = most < n
ShowsFirst h most n (Err NoMemory) = n ≤ most

-- the snapshot of a history at the requested number, or the reason to refuse it: there are fewer commits
abbrev pub Shows : History → Option ℕ → Result Snapshot (Failure Future) → Type 0
Shows h n result = ShowsFirst h (length h) (asked h n) result

-- the rows of a table as of commit n, or the reason to refuse the query. Tables are looked up in the newest state.
abbrev pub rows_of_snapshot : History → ℕ → List ℕ → Result (List Row) NoTable
rows_of_snapshot h n name =
    refused_or (first_of ((is_none (table_of (state_after h) name), record {}) ∷ [])) (rows_at h n name)

-- the reason to refuse a query of versions, if there is one
abbrev pub refusal_of_range : History → Bool → List ℕ → Option RangeRefused
refusal_of_range h is_bad name =
    first_of ((is_bad, range.BadPeriod) ∷ (is_none (table_of (state_after h) name), range.NoTable) ∷ [])
