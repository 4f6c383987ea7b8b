-- What each fault of a run says of its reader and its writer, before and after.
use Rattle.std.specs.Prelude.{◌≡◌, ℕ, ◌+◌, ◌<◌, List, ◌++◌, Option, Result, Ok, Err, length, take, ⊤}
use Rattle.std.specs.Io.KnownBytes.{Appends, Consumes, Keeps}
use Rattle.stream_core.specs.Counted.{Sink, Source}
use Rattle.stream_core.specs.FailureCount.{HasGrown}
use Rattle.stream_core.specs.declared.fault.RunFault.{RunFault}
use Rattle.stream_core.specs.declared.fault.RunFault.TheVariants.{ReadFault, TooLong, NoMemory, WriteFault}

-- the most bytes of a script
abbrev pub script_limit : ℕ
script_limit = 67_108_864

-- the most failed calls of a run that are retried
abbrev pub retry_limit : ℕ
retry_limit = 1_000

-- more bytes than a script may have were read
abbrev pub HasReadTooMuch : Source → Source → Type 0
HasReadTooMuch before after =
    (bytes : List ℕ) × Consumes before.unread after.unread bytes × (script_limit < length bytes)

-- bytes were read, and appended to a text
abbrev pub HasReadOn : Option (List ℕ) → Option (List ℕ) → List ℕ → List ℕ → Type 0
HasReadOn unread left text longer = (bytes : List ℕ) × Consumes unread left bytes × (longer ≡ text ++ bytes)

-- a prefix of these bytes was written, but not all
abbrev pub WritesPartOf : List ℕ → Sink → Sink → Type 0
WritesPartOf bytes before after =
    (taken : ℕ) × (taken < length bytes) × Appends before.written after.written (take taken bytes)

-- how many failed calls end a run, in addition to the retried ones
abbrev pub last_failures : {T : Type 0} → Result T RunFault → ℕ
last_failures (Ok value) = 0
last_failures (Err ReadFault) = 1
last_failures (Err TooLong) = 0
last_failures (Err NoMemory) = 0
last_failures (Err WriteFault) = 1

-- why the reading of a script stopped
abbrev pub ExplainsReading : Source → Source → RunFault → Type 0
ExplainsReading before after ReadFault = HasGrown before.failures after.failures
ExplainsReading before after TooLong = HasReadTooMuch before after
ExplainsReading before after NoMemory = ⊤
ExplainsReading before after WriteFault = ⊥

-- why appending to a text with a limit stopped
abbrev pub ExplainsReadingOn : List ℕ → ℕ → Source → Source → RunFault → Type 0
ExplainsReadingOn text limit before after ReadFault = HasGrown before.failures after.failures
ExplainsReadingOn text limit before after TooLong =
    (bytes : List ℕ) × Consumes before.unread after.unread bytes × (limit < length text + length bytes)
ExplainsReadingOn text limit before after NoMemory = ⊤
ExplainsReadingOn text limit before after WriteFault = ⊥

-- why the writing of some bytes stopped: memory, before any of them, or a write, before the last of them
abbrev pub ExplainsWriting : List ℕ → Sink → Sink → RunFault → Type 0
ExplainsWriting bytes before after ReadFault = ⊥
ExplainsWriting bytes before after TooLong = ⊥
ExplainsWriting bytes before after NoMemory = Keeps before.written after.written
ExplainsWriting bytes before after WriteFault =
    HasGrown before.failures after.failures × WritesPartOf bytes before after
