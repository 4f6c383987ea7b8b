-- Histories: the accepted changes, oldest first, and what can be read from them.
use Rattle.std.specs.Prelude.{◌≡◌, ℕ, List, [], ◌∷◌, length, fold, take, Bool, Option, Some, None, is_none, option_map, slice_get, nat_lt, Result}
use Rattle.row_core.specs.Refusals.{first_of, refused_or}
use Rattle.row_core.specs.declared.row.Row.{Row}
use Rattle.row_core.specs.declared.schema.Column.{Column}
use Rattle.book_core.specs.State.{State, applied, table_of, rows_of, refusal_of}
use Rattle.book_core.specs.declared.commit.Commit.{Commit}
use Rattle.book_core.specs.declared.refusal.RowsRefused.{RowsRefused}
use Rattle.book_core.specs.declared.refusal.RowsRefused.TheVariants.{Future, NoTable}
use Rattle.book_core.specs.declared.refusal.VersionsRefused.{VersionsRefused}
use Rattle.book_core.specs.declared.refusal.VersionsRefused.TheVariants as no_versions

-- the accepted changes, oldest first
abbrev pub History : Type 0
History = List Commit

-- the state after all changes of a history
abbrev pub state_after : History → State
state_after h = fold (λ s c. applied s c.change) [] h

-- each change was accepted in the state before it
abbrev pub IsLegal : History → Type 0
IsLegal h = (n : ℕ) (c : Commit) → slice_get h n ≡ Some c → refusal_of n (state_after (take n h)) c.change ≡ None

-- the rows of a table in the state after the first n changes
abbrev pub rows_at : History → ℕ → List ℕ → List Row
rows_at h n name = rows_of (state_after (take n h)) name

-- the columns of a table in the newest state
abbrev pub schema_in : History → List ℕ → Option (List Column)
schema_in h name = option_map (λ t. t.schema) (table_of (state_after h) name)

-- the rows of a table as of commit n, or the reason to refuse the query
abbrev pub rows_given : History → ℕ → List ℕ → Result (List Row) RowsRefused
rows_given h n name =
    refused_or (first_of ((nat_lt (length h) n, Future) ∷ (is_none (table_of (state_after h) name), NoTable) ∷ []))
    (rows_at h n name)

-- the reason to refuse a query of versions, if there is one
abbrev pub between_refusal : History → ℕ → Bool → List ℕ → Option VersionsRefused
between_refusal h at is_bad name =
    first_of ((nat_lt (length h) at, no_versions.Future) ∷ (is_bad, no_versions.BadPeriod) ∷
    (is_none (table_of (state_after h) name), no_versions.NoTable) ∷ [])
