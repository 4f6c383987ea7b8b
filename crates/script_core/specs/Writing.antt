-- The writing of statements' answers.
use Rattle.std.specs.Prelude.{ℕ, ◌+◌, ◌≡◌, List, [], length}
use Rattle.book_core.specs.History.{History}
use Rattle.stream_core.specs.Counted.{Sink}
use Rattle.stream_core.specs.FailureCount.{HasGrown}
use Rattle.stream_core.specs.declared.fault.RunFault.{RunFault}
use Rattle.stream_core.specs.declared.fault.RunFault.TheVariants.{ReadFault, TooLong, NoMemory, WriteFault}
use Rattle.script_core.specs.Script.{Done, Place, Steps, WritesAll, WritesBefore, WritesWithin}
use Rattle.script_core.specs.declared.outcome.Outcome.{Outcome}

-- These are all statements from a position on.
abbrev pub AreRest : Place → List Done → Type 0
AreRest start dones = (last : Place) × Steps start dones last × (last.left ≡ [])

-- `Writes` says how much was written of the answers to the statements from a position on.
abbrev pub Answering : (List Done → Sink → Sink → Type 0) → Place → Sink → Sink → Type 0
Answering Writes start before after = (dones : List Done) × AreRest start dones × Writes dones before after

-- The position after all records that are left, with this history.
abbrev pub behind : Place → History → Place
behind start history = record { history = history; number = start.number + length start.left; left = [] }

-- The answers to all statements from a position on were written, and led to this history.
abbrev pub AnswersAll : Place → History → Sink → Sink → Outcome → Type 0
AnswersAll start history before after outcome =
    (dones : List Done) × Steps start dones (behind start history) × WritesAll outcome dones before after

-- Why the execution of the statements from a position on stopped.
abbrev pub ExplainsAnswering : Place → Sink → Sink → RunFault → Type 0
ExplainsAnswering start before after ReadFault = ⊥
ExplainsAnswering start before after TooLong = ⊥
ExplainsAnswering start before after NoMemory = Answering WritesBefore start before after
ExplainsAnswering start before after WriteFault =
    HasGrown before.failures after.failures × Answering WritesWithin start before after
