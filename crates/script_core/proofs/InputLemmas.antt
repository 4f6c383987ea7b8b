-- Reading a script some bytes at a time.
use Rattle.std.proofs.Common.{◌≡◌, ℕ, ◌+◌, ◌-◌, ◌≤◌, ◌∙◌, List, [], ◌++◌, Option, ap, append_assoc, arith, drop, length, length-append, length-take, refl, subst, sym, take, take-append-drop}
use Rattle.std.specs.Io.KnownBytes.{Consumes, IsAtEnd}
use Rattle.std.proofs.KnownBytes.{Consumes-nil, Consumes-trans}
use Rattle.command_core.specs.Records.{AreScriptRecords, Record}
use Rattle.command_core.specs.Seams.{AreOfFront}
use Rattle.command_core.proofs.FrontLemmas.{front-longer, front-none}
use Rattle.stream_core.specs.Counted.{Source}
use Rattle.stream_core.specs.Faults.{ExplainsReading, ExplainsReadingOn, HasReadOn, script_limit}
use Rattle.stream_core.specs.declared.fault.RunFault.{RunFault}
use Rattle.stream_core.specs.declared.fault.RunFault.TheVariants.{ReadFault, TooLong, NoMemory, WriteFault}
use Rattle.script_core.specs.Script.{ReadsScript}

-- The bytes read so far: a prefix with these records, then `text`, which may have up to `limit` bytes.
abbrev pub IsReadTo : Option (List ℕ) → Option (List ℕ) → List Record → List ℕ → ℕ → Type 0
IsReadTo unread left records text limit =
    (front : List ℕ) × Consumes unread left (front ++ text) × AreOfFront front records text
    × (length front + limit ≡ script_limit)

-- Nothing was read yet.
pub read-none : (unread : Option (List ℕ)) → IsReadTo unread unread [] [] script_limit
read-none unread = ([], Consumes-nil unread, front-none [], refl)

-- More bytes are read.
pub read-longer : (unread mid left : Option (List ℕ)) (records : List Record) (text longer : List ℕ) (limit : ℕ)
    → IsReadTo unread mid records text limit → HasReadOn mid left text longer
    → IsReadTo unread left records longer limit
read-longer unread mid left records text longer limit (front, read, of, size) (bytes, more, is) = (
  front,
  subst (Consumes unread left)
      (append_assoc front text bytes ∙ ap (λ l. front ++ l) (sym is))
      (Consumes-trans unread mid left (front ++ text) bytes read more),
  subst (AreOfFront front records) (sym is) (front-longer front text bytes records of),
  size,
)

-- More records are read.
pub read-front : (unread left : Option (List ℕ)) (records more : List Record) (text : List ℕ) (limit taken : ℕ)
    → IsReadTo unread left records text limit → length text ≤ limit → taken ≤ length text
    → ((front : List ℕ) → AreOfFront front records text → AreOfFront (front ++ take taken text) more (drop taken text))
    → IsReadTo unread left more (drop taken text) (limit - taken)
read-front unread left records more text limit taken (front, read, of, size) within few longer = (
  front ++ take taken text,
  subst (Consumes unread left)
      (sym (append_assoc front (take taken text) (drop taken text)
      ∙ ap (λ l. front ++ l) (take-append-drop taken text)))
      read,
  longer front of,
  omega (arith, size, within, few, length-append front (take taken text), length-take taken text),
)

-- All records are read.
pub read-all : (before after : Source) (records all : List Record) (text : List ℕ) (limit : ℕ)
    → IsReadTo before.unread after.unread records text limit → length text ≤ limit → IsAtEnd after.unread
    → ((front : List ℕ) → AreOfFront front records text → AreScriptRecords (front ++ text) all)
    → (script : List ℕ) × ReadsScript before after script × AreScriptRecords script all
read-all before after records all text limit (front, read, of, size) within end rest = (
  front ++ text,
  record { read = read; end = end; within = omega (arith, size, within, length-append front text) },
  rest front of,
)

-- Why reading stopped.
pub read-stopped : (before mid after : Source) (records : List Record) (text : List ℕ) (limit : ℕ) (fault : RunFault)
    → IsReadTo before.unread mid.unread records text limit → before.failures ≤ mid.failures
    → ExplainsReadingOn text limit mid after fault → ExplainsReading before after fault
read-stopped before mid after records text limit ReadFault read counts why = omega (arith, counts, why)
read-stopped before mid after records text limit TooLong (front, read, of, size) counts (bytes, more, past) = (
  (front ++ text) ++ bytes,
  Consumes-trans before.unread mid.unread after.unread (front ++ text) bytes read more,
  omega (arith, size, past, length-append front text, length-append (front ++ text) bytes),
)
read-stopped before mid after records text limit NoMemory read counts why = tt
read-stopped before mid after records text limit WriteFault read counts why = why
