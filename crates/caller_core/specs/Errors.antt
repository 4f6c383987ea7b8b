-- One error for a caller, for refusals of several kinds.
use Rattle.std.specs.Prelude.{◌≡◌}
use Rattle.row_core.specs.declared.failure.Failure.{Failure}
use Rattle.row_core.specs.declared.failure.Failure.TheVariants as failure
use Rattle.store_core.specs.declared.refusal.SnapshotRefused.{SnapshotRefused}
use Rattle.store_core.specs.declared.refusal.SnapshotRefused.TheVariants as snapshot
use Rattle.store_core.specs.declared.refusal.StoreRefused.{StoreRefused}
use Rattle.store_core.specs.declared.refusal.StoreRefused.TheVariants as store
use Rattle.caller_core.specs.declared.error.StoreError.{StoreError}
use Rattle.caller_core.specs.declared.error.StoreError.TheVariants as error

-- a call's failure as a caller's error: `Gives` says what its refusal becomes, and `NoMemory` stays
abbrev pub of_failure : {E : Type 0} → (E → StoreError → Type 0) → Failure E → StoreError → Type 0
of_failure Gives (failure.Refused why) e = Gives why e
of_failure Gives failure.NoMemory e = e ≡ error.NoMemory

-- a store's refusal as a caller's error
abbrev pub of_store : StoreRefused → StoreError
of_store store.PassSpent = error.Pass record {}
of_store (store.Book why) = error.Book why

-- a snapshot's refusal as a caller's error
abbrev pub of_snapshot : SnapshotRefused → StoreError
of_snapshot snapshot.PassSpent = error.Pass record {}
of_snapshot snapshot.Future = error.Commit record {}
