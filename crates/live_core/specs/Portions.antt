-- The answers to a script while only its first bytes have arrived.
use Rattle.std.specs.Prelude.{ℕ, ◌≡◌, ◌≤◌, ◌<◌, ◌⊎◌, List, [], ◌++◌, length}
use Rattle.std.specs.Io.KnownBytes.{Appends}
use Rattle.command_core.specs.Records.{Record}
use Rattle.stream_core.specs.Counted.{Sink}
use Rattle.stream_core.specs.Faults.{script_limit}
use Rattle.stream_core.specs.FailureCount.{HasGrown}
use Rattle.stream_core.specs.declared.fault.RunFault.{RunFault}
use Rattle.stream_core.specs.declared.fault.RunFault.TheVariants.{ReadFault, TooLong, NoMemory, WriteFault}
use Rattle.script_core.specs.Script.{AppendsFront, AreStatementsOf, Done, Place, Steps, Tells, WritesWithin, output_of, start_of}
use Rattle.script_core.specs.declared.outcome.Outcome.{Outcome}
use Rattle.live_core.specs.Standing.{Fed, FedTo}
use Rattle.live_core.specs.Whole.{AreWhole, IsUnended}
use Rattle.live_core.specs.declared.live.Live.{Live}

-- The same position, with more records left.
abbrev pub with_more : Place → List Record → Place
with_more place later = record { history = place.history; number = place.number; left = place.left ++ later }

-- The statements that are complete in these bytes, and their answers. They take the first of the whole records,
-- whatever records follow. Afterwards no record is left, or a block without its `end`.
pub record AreDone (bytes : List ℕ) (dones : List Done) : Type 0 where
  pub records : List Record
  pub whole : AreWhole bytes records
  pub place : Place
  pub steps : (later : List Record) → Steps (start_of (records ++ later)) dones (with_more place later)
  pub left : (place.left ≡ []) ⊎ IsUnended place.number place.left

-- After these statements, the statements that the bytes complete were answered.
pub record AnswersMore (bytes : List ℕ) (dones : List Done) (live : Live) (before after : Sink) : Type 0 where
  pub more : List Done
  pub are : AreDone bytes (dones ++ more)
  pub written : Appends before.written after.written (output_of more)
  pub fed : Fed bytes (dones ++ more) live

-- The bytes were scanned. Either statements end before index `end`, or `end` is 0 and all complete statements were
-- already answered.
pub record HasScanned (bytes : List ℕ) (dones : List Done) (live : Live) (end : ℕ) : Type 0 where
  pub some : 0 < end → FedTo bytes dones live end
  pub none : end ≡ 0 → AreDone bytes dones × (length live.text.items ≤ script_limit → Fed bytes dones live)

-- Why answering stopped, and that a prefix of these answers was written, without all of one answer if a write failed.
abbrev pub ExplainsStop : List Done → Sink → Sink → RunFault → Type 0
ExplainsStop dones before after ReadFault = ⊥
ExplainsStop dones before after TooLong = AppendsFront before.written after.written (output_of dones)
ExplainsStop dones before after NoMemory = AppendsFront before.written after.written (output_of dones)
ExplainsStop dones before after WriteFault =
    HasGrown before.failures after.failures × WritesWithin dones before after

-- The same for the statements that the bytes complete after these.
abbrev pub ExplainsMore : List ℕ → List Done → Sink → Sink → RunFault → Type 0
ExplainsMore bytes dones before after why =
    (more : List Done) × AreDone bytes (dones ++ more) × ExplainsStop more before after why

-- After these statements, all other statements of a script were answered. The outcome has the numbers of all.
pub record AnswersRest (script : List ℕ) (dones : List Done) (outcome : Outcome) (before after : Sink)
    : Type 0 where
  pub more : List Done
  pub are : AreStatementsOf script (dones ++ more)
  pub written : Appends before.written after.written (output_of more)
  pub tells : Tells outcome (dones ++ more)

-- Why the answering of a script's other statements stopped, and what was written.
abbrev pub ExplainsRest : List ℕ → List Done → Sink → Sink → RunFault → Type 0
ExplainsRest script dones before after why =
    (more : List Done) × AreStatementsOf script (dones ++ more) × ExplainsStop more before after why
