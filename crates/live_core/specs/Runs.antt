-- A run that answers a script while it reads.
use Rattle.std.specs.Prelude.{ℕ, ◌<◌, ◌⊎◌, List, Option}
use Rattle.std.specs.Io.KnownBytes.{Appends, Consumes, IsAtEnd}
use Rattle.stream_core.specs.Counted.{Source}
use Rattle.stream_core.specs.declared.fault.RunFault.{RunFault}
use Rattle.stream_core.specs.declared.fault.RunFault.TheVariants.{ReadFault, TooLong, NoMemory, WriteFault}
use Rattle.script_core.specs.Script.{AppendsFront, AreStatementsOf, Done, Streams, WritesAll, WritesWithin, output_of}
use Rattle.script_core.specs.declared.outcome.Outcome.{Outcome}
use Rattle.live_core.specs.Portions.{AreDone}

-- These are the statements of the script that the reader gave, up to its end.
abbrev pub ReadsAll : Source → Source → List Done → Type 0
ReadsAll before after dones =
    (script : List ℕ) × Consumes before.unread after.unread script × IsAtEnd after.unread × AreStatementsOf script dones

-- A script was read to its end, its output was written, and the outcome has the numbers of its statements.
abbrev pub RunsAll : Streams → Streams → Outcome → Type 0
RunsAll before after outcome =
    (dones : List Done) × ReadsAll before.reader after.reader dones × WritesAll outcome dones before.writer after.writer

-- The reader's next bytes begin with these.
abbrev pub HasFirst : Source → List ℕ → Type 0
HasFirst source bytes = (left : Option (List ℕ)) × Consumes source.unread left bytes

-- These are the statements that are complete in a prefix of the script, or all statements if the reader is at its end.
abbrev pub ReadsSome : Source → Source → List Done → Type 0
ReadsSome before after dones =
    ((bytes : List ℕ) × HasFirst before bytes × AreDone bytes dones) ⊎ ReadsAll before after dones

-- Why a run stopped, and what it wrote of these answers: all if a read failed, otherwise a prefix.
abbrev pub WritesUpTo : List Done → Streams → Streams → RunFault → Type 0
WritesUpTo dones before after ReadFault =
    (before.reader.failures < after.reader.failures) × Appends before.writer.written after.writer.written (output_of dones)
WritesUpTo dones before after TooLong = AppendsFront before.writer.written after.writer.written (output_of dones)
WritesUpTo dones before after NoMemory = AppendsFront before.writer.written after.writer.written (output_of dones)
WritesUpTo dones before after WriteFault =
    (before.writer.failures < after.writer.failures) × WritesWithin dones before.writer after.writer

-- The same, for the statements of the bytes that were read.
abbrev pub ExplainsRun : Streams → Streams → RunFault → Type 0
ExplainsRun before after why =
    (dones : List Done) × ReadsSome before.reader after.reader dones × WritesUpTo dones before after why
