-- The text after the answered statements of a script.
use Rattle.std.specs.Prelude.{ℕ, ◌+◌, ◌<◌, ◌≡◌, ◌≢◌, ◌⊎◌, List, [], ◌∷◌, ◌++◌, Bool, true, false, None, Some, codes, length}
use Rattle.csv.specs.Machine.{Read, next_record}
use Rattle.csv.specs.Reading.{default_config, strip_bom}
use Rattle.csv.specs.declared.parser.State.{State}
use Rattle.csv.specs.declared.parser.State.TheVariants as st
use Rattle.command_core.specs.Meaning.{IsBody}
use Rattle.command_core.specs.Records.{AreScriptRecords, Record}
use Rattle.command_core.specs.Statement.{AreMembers, Member}
use Rattle.command_core.specs.Words.{begins, is_end, opens_block}
use Rattle.live_core.specs.Scanning.{Knows, Reading, block_after, nothing_read}
use Rattle.live_core.specs.declared.blocks.Block.{Block}
use Rattle.live_core.specs.declared.blocks.Block.TheVariants as block
use Rattle.live_core.specs.declared.scan.Scan.{Scan}

-- ---- records

-- The records of bytes, if a record was begun with these fields and this part of a field.
abbrev pub AreFrom : State → Record → List ℕ → List ℕ → List Record → Type 0
AreFrom state fields field bytes [] = next_record default_config state fields field bytes ≡ None
AreFrom state fields field bytes (line ∷ lines) =
    (read : Read) × (next_record default_config state fields field bytes ≡ Some read) × (line ≡ read.0)
    × AreFrom read.1 [] [] read.2 lines

-- The records of bytes after a record.
abbrev pub AreLines : List ℕ → List Record → Type 0
AreLines bytes lines = AreFrom st.StartRecord [] [] bytes lines

-- The text is the end of the bytes, after the records `passed`: whatever follows, the script's other records are those
-- of the text and of what follows.
pub record IsRest (bytes : List ℕ) (passed : List Record) (text : List ℕ) : Type 0 where
  pub gone : List ℕ
  pub is : bytes ≡ gone ++ text
  pub goes_on : (more : List ℕ) (later : List Record) → AreScriptRecords (text ++ more) later
      → AreScriptRecords (bytes ++ more) (passed ++ later)

-- ---- statements

-- These records are an unfinished statement, and `Block` is the position of its next record.
abbrev pub Opens : Block → List Record → Type 0
Opens block.Outside lines = lines ≡ []
Opens block.Rows lines =
    (opening : Record) × (body : List Record) × (lines ≡ opening ∷ body) × (opens_block opening ≡ true) × IsBody body
Opens block.Together lines =
    (opening : Record) × (body : List Record) × (lines ≡ opening ∷ body)
    × (begins (codes "together") opening ≡ true)
    × ((number : ℕ) → (members : List Member) × AreMembers number body members)
Opens block.RowsInside lines =
    (opening : Record) × (body : List Record) × (inner : Record) × (rows : List Record)
    × (lines ≡ opening ∷ (body ++ inner ∷ rows)) × (begins (codes "together") opening ≡ true)
    × ((number : ℕ) → (members : List Member) × AreMembers number body members)
    × (is_end inner ≡ false) × (opens_block inner ≡ true) × IsBody rows

-- ---- texts

-- The byte order mark.
abbrev pub mark : List ℕ
mark = 0xEF ∷ 0xBB ∷ 0xBF ∷ []

-- A byte that may end a record.
abbrev pub IsLineEnd : ℕ → Type 0
IsLineEnd byte = (byte ≡ 10) ⊎ (byte ≡ 13)

-- The bytes before these in a text that aren't read: the byte order mark; nothing, if the bytes can't begin with the
-- mark; or the end of the previous record.
abbrev pub IsLead : List ℕ → List ℕ → Type 0
IsLead lead bytes =
    (lead ≡ mark) ⊎ ((lead ≡ []) × ((more : List ℕ) → strip_bom (bytes ++ more) ≡ bytes ++ more))
    ⊎ ((byte : ℕ) × (lead ≡ byte ∷ []) × IsLineEnd byte)

-- No bytes, or bytes the last of which may end a record.
abbrev pub IsCutOff : List ℕ → Type 0
IsCutOff bytes = (bytes ≡ []) ⊎ ((front : List ℕ) × (byte : ℕ) × (bytes ≡ front ++ byte ∷ []) × IsLineEnd byte)

-- The state is right for the bytes that were read.
pub record IsRead (r : Reading) : Type 0 where
  pub whole : (more : List ℕ) (later : List Record) → AreLines more later → AreLines (r.whole ++ more) (r.done ++ later)
  pub cut : IsCutOff r.whole
  pub closed : block_after block.Outside r.done ≡ block.Outside
  pub pending : (more : List ℕ) (later : List Record) → AreFrom r.state r.fields r.field more later
      → AreLines (r.behind ++ more) (r.pending ++ later)
  pub opens : Opens (block_after block.Outside r.pending) r.pending

-- The reading has a text's bytes.
pub record IsScanned (text : List ℕ) (r : Reading) : Type 0 where
  pub lead : List ℕ
  pub is : text ≡ lead ++ (r.whole ++ r.behind)
  pub leads : IsLead lead (r.whole ++ r.behind)
  pub read : IsRead r

-- A text was scanned, and no statement in it is complete.
pub record IsBegun (text : List ℕ) (scan : Scan) : Type 0 where
  pub reading : Reading
  pub nothing : reading.whole ≡ []
  pub none : reading.done ≡ []
  pub scanned : IsScanned text reading
  pub knows : Knows scan reading

-- A text was scanned whose last complete statement ends before index `end`; 0 if no statement is complete.
pub record IsScannedTo (text : List ℕ) (scan : Scan) (end : ℕ) : Type 0 where
  pub reading : Reading
  pub scanned : IsScanned text reading
  pub knows : Knows scan reading
  pub none : end ≡ 0 → (reading.whole ≡ []) × (reading.done ≡ [])
  pub some : 0 < end → (reading.whole ≢ []) × (end ≡ length scanned.lead + length reading.whole)

-- The bytes are a proper prefix of the byte order mark.
abbrev pub IsMarkFront : List ℕ → Type 0
IsMarkFront bytes = (bytes ≡ []) ⊎ (bytes ≡ 0xEF ∷ []) ⊎ (bytes ≡ 0xEF ∷ 0xBB ∷ [])

-- All bytes of the script may still become the byte order mark.
pub record IsWaiting (bytes : List ℕ) (passed : List Record) (text : List ℕ) (scan : Scan) : Type 0 where
  pub is : bytes ≡ text
  pub none : passed ≡ []
  pub front : IsMarkFront text
  pub knows : Knows scan nothing_read

-- The text is being scanned, or waits until a byte order mark is there or ruled out.
abbrev pub IsReading : Bool → List ℕ → List Record → List ℕ → Scan → Type 0
IsReading true bytes passed text scan = IsBegun text scan
IsReading false bytes passed text scan = IsWaiting bytes passed text scan
