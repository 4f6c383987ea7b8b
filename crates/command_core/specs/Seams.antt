-- Seams of a script: where it is cut into pieces that are read one by one.
use Rattle.std.specs.Prelude.{◌≡◌, ◌≢◌, ◌⊎◌, ℕ, suc, ◌+◌, ◌<◌, ◌≤◌, List, [], ◌∷◌, ◌++◌, Option, None, Some, IfSome, length, drop, take, get_or, flat_map}
use Rattle.csv.specs.Machine.{line_feed}
use Rattle.csv.specs.Reading.{strip_bom}
use Rattle.command_core.specs.Records.{AreScriptRecords, Record}

-- The items of all lists, in order.
abbrev pub joined : {X : Type 0} → List (List X) → List X
joined lists = flat_map (λ list. list) lists

-- The last item, if there is one.
abbrev pub last : {X : Type 0} → List X → Option X
last [] = None
last (item ∷ []) = Some item
last (item ∷ next ∷ items) = last (next ∷ items)

-- The last field of the records doesn't end with a line feed.
abbrev pub EndsInField : List Record → Type 0
EndsInField records = IfSome (last (joined records)) (λ field. last field ≢ Some line_feed)

-- A record begins after `piece`, which has these records. The last byte of `piece` is a line feed that ends a record:
-- between quotes it would be the last byte of the last field. The bytes after it don't begin with a byte order mark,
-- which a reader that begins there would skip.
pub record IsSeam (piece : List ℕ) (records : List Record) (behind : List ℕ) : Type 0 where
  pub ends : last piece ≡ Some line_feed
  pub field : EndsInField records
  pub unmarked : strip_bom behind ≡ behind

-- Each list has the records of the text at the same index.
abbrev pub AreRead : List (List ℕ) → List (List Record) → Type 0
AreRead texts lists = (length texts ≡ length lists)
    × ((i : ℕ) → i < length texts → AreScriptRecords (get_or texts i []) (get_or lists i []))

-- There is a seam between each text and the next, by the records of the first of the two.
abbrev pub AreSeams : List (List ℕ) → List (List Record) → Type 0
AreSeams texts lists = (i : ℕ) → suc i < length texts
    → IsSeam (get_or texts i []) (get_or lists i []) (get_or texts (suc i) [])

-- A text may be cut at index `place`: a line ends before the cut, and the bytes after it begin with no byte order mark,
-- whatever is appended to them.
pub record IsCut (text : List ℕ) (place : ℕ) : Type 0 where
  pub ends : last (take place text) ≡ Some line_feed
  pub unmarked : (more : List ℕ) → strip_bom (drop place text ++ more) ≡ drop place text ++ more

-- no line end is followed by three bytes that are not a byte order mark
abbrev pub HasNoCut : List ℕ → Type 0
HasNoCut text = (place : ℕ) → place + 3 ≤ length text → IsCut text place → ⊥

-- the text before a cut, if only that is read, ends within a quoted field
pub record IsCutWithin (text : List ℕ) : Type 0 where
  pub place : ℕ
  pub cut : IsCut text place
  pub records : List Record
  pub are : AreScriptRecords (take place text) records
  pub within : EndsInField records → ⊥

-- These are the records of the prefix `front` of a script, whose next bytes are `next`. Either `front` is empty, or a
-- record begins after it, whatever follows `next`.
pub record AreOfFront (front : List ℕ) (records : List Record) (next : List ℕ) : Type 0 where
  pub are : AreScriptRecords front records
  pub seam : (front ≡ []) ⊎ ((more : List ℕ) → IsSeam front records (next ++ more))
