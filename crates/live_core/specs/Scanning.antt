-- The state of reading a text byte by byte: the position in a record, and in a statement.
use Rattle.std.specs.Prelude.{ℕ, ◌+◌, ◌≡◌, ◌<◌, List, [], ◌∷◌, ◌++◌, Bool, true, false, codes, if◌then◌else◌, length}
use Rattle.csv.specs.Machine.{field_after, fields_after, is_end, step}
use Rattle.csv.specs.Reading.{default_config}
use Rattle.csv.specs.declared.parser.Action.{Action}
use Rattle.csv.specs.declared.parser.Action.TheVariants as act
use Rattle.csv.specs.declared.parser.State.{State}
use Rattle.csv.specs.declared.parser.State.TheVariants as st
use Rattle.command_core.specs.Records.{Record}
use Rattle.command_core.specs.Words as words
use Rattle.live_core.specs.declared.blocks.Block.{Block}
use Rattle.live_core.specs.declared.blocks.Block.TheVariants as block
use Rattle.live_core.specs.declared.steps.Spot.{Spot}
use Rattle.live_core.specs.declared.steps.Spot.TheVariants as spot
use Rattle.live_core.specs.declared.steps.Move.{Move}
use Rattle.live_core.specs.declared.steps.Move.TheVariants as move
use Rattle.live_core.specs.declared.scan.Scan.{Scan}

-- ---- bytes

-- The state of `csv` for a position.
abbrev pub state_of : Spot → State
state_of spot.Between = st.StartRecord
state_of spot.FieldStart = st.StartField
state_of spot.InField = st.InField
state_of spot.InQuotes = st.InQuoted
state_of spot.BehindQuote = st.AfterQuote

-- The action of `csv` for the effect of a byte.
abbrev pub action_of : Move → Action
action_of move.Skip = act.Skip
action_of move.Copy = act.Copy
action_of move.EndField = act.EndField
action_of move.EndRecord = act.EndRecord

-- After a carriage return that ended a record, each byte is read as between records.
abbrev pub folded : State → State
folded st.StartRecord = st.StartRecord
folded st.StartField = st.StartField
folded st.InField = st.InField
folded st.InQuoted = st.InQuoted
folded st.AfterQuote = st.AfterQuote
folded st.InEscape = st.InEscape
folded st.InComment = st.InComment
folded st.AfterCr = st.StartRecord

-- ---- records

-- The position in a statement after one more record.
abbrev pub next_block : Block → Record → Block
next_block block.Outside line =
    if words.begins (codes "together") line then block.Together
    else if words.opens_block line then block.Rows else block.Outside
next_block block.Rows line = if words.is_end line then block.Outside else block.Rows
next_block block.Together line =
    if words.is_end line then block.Outside
    else if words.opens_block line then block.RowsInside else block.Together
next_block block.RowsInside line = if words.is_end line then block.Together else block.RowsInside

-- The position after several records.
abbrev pub block_after : Block → List Record → Block
block_after block [] = block
block_after block (line ∷ lines) = block_after (next_block block line) lines

-- The position is between statements.
abbrev pub is_outside : Block → Bool
is_outside block.Outside = true
is_outside block.Rows = false
is_outside block.Together = false
is_outside block.RowsInside = false

-- ---- a text

-- The bytes that were read. `whole` are the bytes of the complete statements, and `done` their records. `behind` are
-- the bytes after them, `pending` the whole records of `behind`. `fields` and `field` are the unfinished record.
pub record Reading : Type 0 where
  pub whole : List ℕ
  pub done : List Record
  pub behind : List ℕ
  pub pending : List Record
  pub state : State
  pub fields : Record
  pub field : List ℕ

-- Nothing was read yet.
abbrev pub nothing_read : Reading
nothing_read = record {
  whole = [];
  done = [];
  behind = [];
  pending = [];
  state = st.StartRecord;
  fields = [];
  field = [];
}

-- A byte that doesn't end a record.
abbrev pub inside : Reading → ℕ → State × Action → Reading
inside r c q = record {
  whole = r.whole;
  done = r.done;
  behind = r.behind ++ c ∷ [];
  pending = r.pending;
  state = folded q.0;
  fields = fields_after q.1 r.fields r.field;
  field = field_after q.1 c r.field;
}

-- A byte that ends a record, and maybe its statement.
abbrev pub closing : Reading → ℕ → State → Record → Bool → Reading
closing r c state line true = record {
  whole = r.whole ++ (r.behind ++ c ∷ []);
  done = r.done ++ (r.pending ++ line ∷ []);
  behind = [];
  pending = [];
  state = folded state;
  fields = [];
  field = [];
}
closing r c state line false = record {
  whole = r.whole;
  done = r.done;
  behind = r.behind ++ c ∷ [];
  pending = r.pending ++ line ∷ [];
  state = folded state;
  fields = [];
  field = [];
}

-- The current record, if it ends here.
abbrev pub line_at_hand : Reading → Record
line_at_hand r = r.fields ++ r.field ∷ []

-- The current record's end is the end of its statement.
abbrev pub closes : Reading → Bool
closes r = is_outside (next_block (block_after block.Outside r.pending) (line_at_hand r))

-- One more byte, with the action that `csv` has for it.
abbrev pub by_action : Reading → ℕ → State × Action → Bool → Reading
by_action r c q true = closing r c q.0 (line_at_hand r) (closes r)
by_action r c q false = inside r c q

abbrev pub read_byte : Reading → ℕ → Reading
read_byte r c = by_action r c (step default_config r.state c) (is_end (step default_config r.state c).1)

-- The byte ends a statement.
abbrev pub ends_statement : Reading → ℕ → Bool
ends_statement r c = if is_end (step default_config r.state c).1 then closes r else false

-- More bytes.
abbrev pub read_bytes : Reading → List ℕ → Reading
read_bytes r [] = r
read_bytes r (c ∷ rest) = read_bytes (read_byte r c) rest

-- The index `cut` is after the last of the new bytes that ends a statement, or 0 if none does.
pub record IsCutAt (old new : Reading) (cut : ℕ) : Type 0 where
  pub none : cut ≡ 0 → (new.whole ≡ old.whole) × (new.done ≡ old.done)
  pub some : 0 < cut → length new.whole ≡ length old.whole + length old.behind + cut

-- ---- a text in memory

-- The first field of the current record, as far as it was read.
abbrev pub first_of : Record → List ℕ → List ℕ
first_of [] field = field
first_of (first ∷ fields) field = first

-- The current record's first field isn't finished.
abbrev pub is_first : Record → Bool
is_first [] = true
is_first (first ∷ fields) = false

-- A scan has the state of a reading.
pub record Knows (scan : Scan) (r : Reading) : Type 0 where
  pub spot : state_of scan.spot ≡ r.state
  pub first : scan.first.items ≡ first_of r.fields r.field
  pub is_first : scan.is_first ≡ is_first r.fields
  pub block : scan.block ≡ block_after block.Outside r.pending
