-- What a failure says about the value that a call should have returned.
use Rattle.std.specs.Prelude.{ℕ, ◌≡◌, Result, Err, ⊤}
use Rattle.row_core.specs.Refusals.{map_refused}
use Rattle.row_core.specs.declared.failure.Failure as row
use Rattle.row_core.specs.declared.failure.Failure.TheVariants.{Refused, NoMemory}
use Rattle.command_core.specs.Refusal.{fault}
use Rattle.command_core.specs.declared.refusal.Fault.{Fault}
use Rattle.command_core.specs.declared.refusal.Refusal.{Refusal}

-- Why a command isn't executed.
abbrev pub Failure : Type 0
Failure = row.Failure Fault

-- A refusal of the record of this number.
abbrev pub refused : ℕ → Refusal → Failure
refused number refusal = Refused (fault number refusal)

-- A lower crate's failure, reported for the record of this number. `name` gives the refusal its name in scripts.
abbrev pub failure_at : {E : Type 0} → ℕ → (E → Refusal) → row.Failure E → Failure
failure_at number name why = map_refused (λ refusal. fault number (name refusal)) why

-- A refusal is the one that applies. Refused memory says nothing.
abbrev pub IsFailureOf : {T : Type 0} → Result T Fault → Failure → Type 0
IsFailureOf meant (Refused wrong) = meant ≡ Err wrong
IsFailureOf meant NoMemory = ⊤

-- The same for the value of one record.
abbrev pub IsRecordFailure : {T : Type 0} → ℕ → Result T Refusal → Failure → Type 0
IsRecordFailure number meant (Refused wrong) =
    (refusal : Refusal) × (meant ≡ Err refusal) × (wrong ≡ fault number refusal)
IsRecordFailure number meant NoMemory = ⊤
