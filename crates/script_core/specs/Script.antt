-- The output of a script: the answers to its statements, in order.
use Rattle.std.specs.Prelude.{ℕ, ◌+◌, ◌≡◌, ◌≤◌, ◌<◌, ◌⊎◌, List, [], ◌∷◌, ◌++◌, Option, length, take, flat_map, sum_by}
use Rattle.std.specs.Io.KnownBytes.{Appends, Consumes, IsAtEnd, Keeps}
use Rattle.book_core.specs.History.{History}
use Rattle.command_core.specs.Records.{AreScriptRecords, Record}
use Rattle.command_core.specs.Statement.{States, Statement, commands_in}
use Rattle.stream_core.specs.Counted.{Sink, Source, sink_of, source_of}
use Rattle.stream_core.specs.Faults.{HasReadTooMuch, script_limit}
use Rattle.stream_core.specs.declared.counted.Counted.{Counted}
use Rattle.stream_core.specs.declared.fault.RunFault.{RunFault}
use Rattle.stream_core.specs.declared.fault.RunFault.TheVariants.{ReadFault, TooLong, NoMemory, WriteFault}
use Rattle.answer_core.specs.PrintedRecords.{errors_in}
use Rattle.answer_core.specs.RecordBytes.{bytes_of}
use Rattle.script_core.specs.Answer.{Answers}
use Rattle.script_core.specs.declared.outcome.Outcome.{Outcome}

-- A position in a script: the history before it, the number of the next record, and the records that are left.
pub record Place : Type 0 where
  pub history : History
  pub number : ℕ
  pub left : List Record

-- The position before the first statement: nothing was changed, and all records are left.
abbrev pub start_of : List Record → Place
start_of records = record { history = []; number = 1; left = records }

-- An executed statement, and its answer.
pub record Done : Type 0 where
  pub statement : Statement
  pub answer : List Record

-- One statement takes the next records, and is answered.
pub record Step (old : Place) (done : Done) (new : Place) : Type 0 where
  pub own : List Record
  pub taken : old.left ≡ own ++ new.left
  pub number : new.number ≡ old.number + length own
  pub states : States old.number own new.left done.statement
  pub answers : Answers old.history old.number done.statement done.answer new.history

-- These statements were executed, in order.
abbrev pub Steps : Place → List Done → Place → Type 0
Steps old [] new = old ≡ new
Steps old (done ∷ more) new = (mid : Place) × Step old done mid × Steps mid more new

-- The bytes of their answers.
abbrev pub output_of : List Done → List ℕ
output_of dones = flat_map (λ done. bytes_of done.answer) dones

-- All statements of these records.
pub record Finished (records : List Record) (dones : List Done) : Type 0 where
  pub place : Place
  pub steps : Steps (start_of records) dones place
  pub over : place.left ≡ []

-- These are the statements of a script, in order, and their answers.
pub record AreStatementsOf (script : List ℕ) (dones : List Done) : Type 0 where
  pub records : List Record
  pub parsed : AreScriptRecords script records
  pub finished : Finished records dones

-- These bytes are the output of a script: the answers to all its statements, in order.
pub record IsOutput (script output : List ℕ) : Type 0 where
  pub dones : List Done
  pub statements : AreStatementsOf script dones
  pub is : output ≡ output_of dones

-- The outcome has the numbers of these statements.
pub record Tells (outcome : Outcome) (dones : List Done) : Type 0 where
  pub commands : outcome.commands ≡ sum_by (λ done. commands_in done.statement) dones
  pub errors : outcome.errors ≡ sum_by (λ done. errors_in done.answer) dones

-- A prefix of these bytes was written.
abbrev pub AppendsFront : Option (List ℕ) → Option (List ℕ) → List ℕ → Type 0
AppendsFront old new bytes = (size : ℕ) × Appends old new (take size bytes)

-- ---- runs

-- The reader and the writer of a run at one moment.
pub record Streams : Type 0 where
  pub reader : Source
  pub writer : Sink

-- A counted reader and a counted writer at this moment.
abbrev pub streams_of : {R W : Type 0}
    → (R → Option (List ℕ)) → Counted R → (W → Option (List ℕ)) → Counted W → Streams
streams_of remaining reader contents writer =
    record { reader = source_of remaining reader; writer = sink_of contents writer }

-- The reader gave these bytes, up to its end and within the limit.
pub record ReadsScript (before after : Source) (script : List ℕ) : Type 0 where
  pub read : Consumes before.unread after.unread script
  pub end : IsAtEnd after.unread
  pub within : length script ≤ script_limit

-- The reader gave a script, and these are its statements.
pub record ReadsStatements (before after : Source) (dones : List Done) : Type 0 where
  pub script : List ℕ
  pub reads : ReadsScript before after script
  pub statements : AreStatementsOf script dones

-- The answers to these statements were written and nothing else, and the outcome has their numbers.
pub record WritesAll (outcome : Outcome) (dones : List Done) (before after : Sink) : Type 0 where
  pub written : Appends before.written after.written (output_of dones)
  pub tells : Tells outcome dones

-- The answers to all statements before one of these were written.
pub record WritesBefore (dones : List Done) (before after : Sink) : Type 0 where
  pub first : List Done
  pub next : Done
  pub later : List Done
  pub statements : dones ≡ first ++ next ∷ later
  pub written : Appends before.written after.written (output_of first)

-- The answers to all statements before one of these were written, and a proper prefix of that statement's answer.
pub record WritesWithin (dones : List Done) (before after : Sink) : Type 0 where
  pub first : List Done
  pub next : Done
  pub later : List Done
  pub statements : dones ≡ first ++ next ∷ later
  pub size : ℕ
  pub short : size < length (bytes_of next.answer)
  pub written : Appends before.written after.written (output_of first ++ take size (bytes_of next.answer))

-- A script was read, and `Writes` says how much of its answers was written.
abbrev pub ReadsAnd : (List Done → Sink → Sink → Type 0) → Streams → Streams → Type 0
ReadsAnd Writes before after =
    (dones : List Done) × ReadsStatements before.reader after.reader dones × Writes dones before.writer after.writer

-- A script was read, its whole output was written, and the outcome has the numbers of its statements.
abbrev pub RunsAll : Streams → Streams → Outcome → Type 0
RunsAll before after outcome = ReadsAnd (WritesAll outcome) before after

-- Nothing was written, and no write failed.
abbrev pub IsUntouched : Sink → Sink → Type 0
IsUntouched before after = (after.failures ≡ before.failures) × Keeps before.written after.written

-- Why a run stopped, and what it wrote. Memory may be refused before the script is read.
abbrev pub ExplainsRun : Streams → Streams → RunFault → Type 0
ExplainsRun before after ReadFault =
    (before.reader.failures < after.reader.failures) × IsUntouched before.writer after.writer
ExplainsRun before after TooLong = HasReadTooMuch before.reader after.reader × IsUntouched before.writer after.writer
ExplainsRun before after NoMemory =
    Keeps before.writer.written after.writer.written ⊎ ReadsAnd WritesBefore before after
ExplainsRun before after WriteFault =
    (before.writer.failures < after.writer.failures) × ReadsAnd WritesWithin before after
