-- What a snapshot returns, and a script shows.
use Rattle.std.proofs.Common.{◌≡◌, ℕ, ◌≤◌, List, [], ◌∷◌, Bool, true, false, Some, length, refl}
use Rattle.std.specs.Prelude.{is_none, nat_lt}
use Rattle.std.proofs.lemmas.Bool.{le-ltb}
use Rattle.row_core.specs.Refusals.{first_of, map_err, refused_or}
use Rattle.book_core.specs.History.{History, rows_at, state_after}
use Rattle.book_core.specs.State.{table_of}
use Rattle.book_core.specs.declared.refusal.RowsRefused.TheVariants as no_rows
use Rattle.store_core.specs.Snapshots.{rows_of_snapshot}
use Rattle.command_core.specs.Refusal.{fault}
use Rattle.script_core.specs.Effects.{rows_or_fault}
use Rattle.script_core.specs.Refusal.{rows_refusal, table_refusal}

-- If the commit exists, only the table may be missing.
present : {T : Type 0} (number : ℕ) (late gone : Bool) (rows : T) → late ≡ false
    → map_err (λ refused. fault number (rows_refusal refused))
    (refused_or (first_of ((late, no_rows.Future) ∷ (gone, no_rows.NoTable) ∷ [])) rows)
    ≡ map_err (λ refused. fault number (table_refusal refused)) (refused_or (first_of ((gone, record {}) ∷ [])) rows)
present number late true rows e = rw e refl
present number late false rows e = rw e refl

-- The rows that a snapshot returns are the rows of the commit that it shows.
pub rows-reported : (number : ℕ) (h : History) (n : ℕ) (name : List ℕ) → n ≤ length h
    → rows_or_fault number h (Some n) name
    ≡ map_err (λ refused. fault number (table_refusal refused)) (rows_of_snapshot h n name)
rows-reported number h n name within =
    present number (nat_lt (length h) n) (is_none (table_of (state_after h) name)) (rows_at h n name)
    (le-ltb (length h) n within)
