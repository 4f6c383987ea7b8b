-- A script's store and its snapshots, as contracts see them.
use Rattle.std.specs.Prelude.{◌≡◌, ℕ, List, Option, Some, length}
use Rattle.book_core.specs.History.{History}
use Rattle.command_core.specs.Records.{Record}
use Rattle.store_core.specs.Passes.{calls_left, seen}
use Rattle.store_core.specs.Snapshots.{history, number_shown}
use Rattle.store_core.specs.declared.snapshot.Snapshot.{Snapshot}
use Rattle.script_core.specs.Script.{Place}
use Rattle.script_core.specs.declared.ledger.Ledger.{Ledger}

-- The history of the store, which its only pass has seen.
abbrev pub ledger_history : Ledger → History
ledger_history ledger = seen ledger.pass

-- The number of calls that are left.
abbrev pub left_in : Ledger → ℕ
left_in ledger = calls_left ledger.pass

-- The position in the script: the store's history, the number of the next record, and the records that are left.
abbrev pub place_in : Ledger → ℕ → List Record → Place
place_in ledger number left = record { history = ledger_history ledger; number = number; left = left }

-- The commit that a snapshot shows, as a command names one.
abbrev pub commit_shown : Snapshot → Option ℕ
commit_shown snapshot = Some (number_shown snapshot)

-- The snapshot shows all commits of its history.
abbrev pub ShowsAll : Snapshot → Type 0
ShowsAll snapshot = number_shown snapshot ≡ length (history snapshot)
