-- The position and the store of a script that arrives in portions.
use Rattle.std.specs.Prelude.{ℕ, ◌+◌, ◌*◌, ◌≡◌, ◌≤◌, ◌<◌, List, [], ◌++◌, length, sum_by, true}
use Rattle.std.specs.Io.KnownBytes.{Appends}
use Rattle.turn_core.specs.Limits.{call_limit}
use Rattle.command_core.specs.Records.{Record}
use Rattle.command_core.specs.Statement.{commands_in}
use Rattle.stream_core.specs.Counted.{Sink}
use Rattle.stream_core.specs.Faults.{script_limit}
use Rattle.stream_core.specs.FailureCount.{HasGrown}
use Rattle.stream_core.specs.declared.fault.RunFault.{RunFault}
use Rattle.stream_core.specs.declared.fault.RunFault.TheVariants.{ReadFault, TooLong, NoMemory, WriteFault}
use Rattle.answer_core.specs.PrintedRecords.{errors_in}
use Rattle.script_core.specs.Ledgers.{ledger_history, left_in, place_in}
use Rattle.script_core.specs.Script.{Done, IsUntouched, Place, Steps, Tells, WritesBefore, WritesWithin, output_of, start_of}
use Rattle.script_core.specs.Writing.{Answering}
use Rattle.live_core.specs.Texts.{IsReading, IsRest, IsScannedTo}
use Rattle.live_core.specs.declared.live.Live.{Live}
use Rattle.live_core.specs.declared.session.Session.{Session}

-- The position of the script, if these records are left.
abbrev pub place_of : Session → List Record → Place
place_of session left = place_in session.ledger session.number left

-- The store has enough calls left for more records, and the counts can't overflow.
pub record IsFit (session : Session) : Type 0 where
  pub some : 0 < session.number
  pub calls : call_limit + 2 ≤ left_in session.ledger + 2 * session.number
  pub commands : session.outcome.commands < session.number
  pub errors : session.outcome.errors ≤ session.outcome.commands

-- Nothing was answered yet.
pub record IsNew (session : Session) : Type 0 where
  pub history : ledger_history session.ledger ≡ []
  pub calls : left_in session.ledger ≡ call_limit
  pub number : session.number ≡ 1
  pub commands : session.outcome.commands ≡ 0
  pub errors : session.outcome.errors ≡ 0

-- All statements of these records, which come next, were answered.
pub record HasAnswered (records : List Record) (old new : Session) (before after : Sink) : Type 0 where
  pub dones : List Done
  pub steps : Steps (place_of old records) dones (place_of new [])
  pub written : Appends before.written after.written (output_of dones)
  pub commands : new.outcome.commands ≡ old.outcome.commands + sum_by (λ done. commands_in done.statement) dones
  pub errors : new.outcome.errors ≡ old.outcome.errors + sum_by (λ done. errors_in done.answer) dones

-- Why the answering of these records stopped.
abbrev pub StopsAnswering : List Record → Session → Sink → Sink → RunFault → Type 0
StopsAnswering records old before after ReadFault = ⊥
StopsAnswering records old before after TooLong = IsUntouched before after
StopsAnswering records old before after NoMemory = Answering WritesBefore (place_of old records) before after
StopsAnswering records old before after WriteFault =
    HasGrown before.failures after.failures × Answering WritesWithin (place_of old records) before after

-- The records `passed` are the first ones of these bytes, and their statements were answered.
pub record HasPassed (bytes : List ℕ) (dones : List Done) (live : Live) (passed : List Record) : Type 0 where
  pub rest : IsRest bytes passed live.text.items
  pub steps : (later : List Record) → Steps (start_of (passed ++ later)) dones (place_of live.session later)
  pub tells : Tells live.session.outcome dones
  pub fit : IsFit live.session

-- These bytes were fed, and these statements were answered.
pub record Fed (bytes : List ℕ) (dones : List Done) (live : Live) : Type 0 where
  pub passed : List Record
  pub has : HasPassed bytes dones live passed
  pub few : length live.text.items ≤ script_limit
  pub reads : IsReading live.is_begun bytes passed live.text.items live.scan

-- These bytes were fed, and these statements were answered. The statements that end before index `end` of the text
-- weren't answered yet.
pub record FedTo (bytes : List ℕ) (dones : List Done) (live : Live) (end : ℕ) : Type 0 where
  pub passed : List Record
  pub has : HasPassed bytes dones live passed
  pub few : length live.text.items ≤ 2 * script_limit
  pub begun : live.is_begun ≡ true
  pub reads : IsScannedTo live.text.items live.scan end
