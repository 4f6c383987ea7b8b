-- The kinds of step at the turn's table, and how each changes a seat's view:
-- - made: the table and its first seat, before it is shared
-- - dealt: a seat with the next number is split off the first
-- - draw: one fetch_add on the word of tickets drawn
-- - look: a load of the word of tickets served; at its turn the seat sees all entries
-- - out, home: the two exchanges of the slot, which change no view
-- - pass on: one fetch_add on the word of tickets served; a call takes effect here
-- - split: a seat is split off that carries what another one knows
-- - join: two seats are joined, after which the second knows nothing
-- - learn: a load of the word of tickets served; what was heard is a prefix of the same list
use Rattle.std.specs.Prelude.{◌≡◌, ◌≢◌, ℕ, ◌+◌, ◌-◌, ◌*◌, ◌<◌, List, [], ◌∷◌, Option, Some}
use mathlib.Core.List.{IsPrefix}
use Rattle.atomic_table.specs.Table.{Me, Step}
use Rattle.turn_core.specs.Entries.{own, AreOfCallers}
use Rattle.turn_core.specs.Limits.{call_limit}
use Rattle.turn_core.specs.declared.view.View.{View}
use Rattle.turn_core.specs.declared.view.Stage.TheVariants.{Resting, Waiting, Serving}

-- the longer of two lists, one of which is a prefix of the other
abbrev pub longer : {E : Type 0} → List E → List E → List E
longer [] ys = ys
longer (x ∷ xs) [] = x ∷ xs
longer (x ∷ xs) (y ∷ ys) = x ∷ longer xs ys

module _ {E : Type 0} where
  -- a view without a call in progress and without a join: its number and source, the mark, the numbers not given out
  -- yet, the calls left, what it has seen, and its source's entries
  abbrev pub rested : ℕ → ℕ → ℕ → ℕ → ℕ → List E → List E → View E
  rested number source mark spare left seen mine = record {
    number = number;
    source = source;
    mark = mark;
    spare = spare;
    left = left;
    seen = seen;
    mine = mine;
    before = [];
    heard = [];
    stage = Resting;
  }

  -- a seat with the numbers from this one on, and all their calls
  abbrev pub view_from : ℕ → ℕ → View E
  view_from number seats = rested number number seats (seats - number) ((seats + 1 - number) * call_limit) [] []

  -- a seat after the next one was split off: it keeps its own number only
  abbrev pub sole : View E → View E
  sole v = record v { spare = 0; left = call_limit }

  -- the seat that was split off has the next number
  abbrev pub following : View E → View E
  following v = rested (v.number + 1) (v.number + 1) v.mark (v.spare - 1) (v.left - call_limit) [] []

  -- a new seat: all its calls are left, and nothing is seen
  abbrev pub fresh : ℕ → ℕ → View E
  fresh number seats = rested number number seats 0 call_limit [] []

  -- a seat that carries what v knows, and makes no calls
  abbrev pub telling : View E → View E
  telling v = rested 0 v.source v.mark 0 0 v.seen v.mine

  -- v, after it has heard what w knows
  abbrev pub hearing : View E → View E → View E
  hearing v w = record v { seen = longer v.seen w.seen; before = v.seen; heard = w.seen }

  -- a seat that knows nothing
  abbrev pub spent_view : View E
  spent_view = rested 0 0 0 0 0 [] []

-- what a seat knows and holds
abbrev SeatState : Type 0 → Type 0 → Type 0
SeatState S E = Me (Option S) (View E)

-- the ticket is the number found, and one call fewer is left
abbrev pub DrawsTicket : {S E : Type 0} → Step (Option S) → SeatState S E → ℕ → SeatState S E → Type 0
DrawsTicket st m n m' = (m'.1 ≡ m.1) × (m'.0 ≡ record m.0 { left = m.0.left - 1; stage = Waiting n })

module _ {S E : Type 0} (entries : S → List E) (by : E → ℕ) (mark_of : S → ℕ) where
  -- a state that may be passed to a seat: its entries begin with what the seat has seen, and include all the seat's own
  pub record Lent (v : View E) (y : S) : Type 0 where
    pub begins : IsPrefix v.seen (entries y)
    pub own : own by v.number (entries y) ≡ v.mine
    pub numbered : AreOfCallers by v.mark (entries y)
    pub mark : mark_of y ≡ v.mark

  -- if the number found is not the ticket, nothing changes; otherwise the state is taken out, and all entries are seen
  abbrev pub Looks : Step (Option S) → SeatState S E → ℕ → SeatState S E → Type 0
  Looks st m n m' = (k : ℕ) → m.0.stage ≡ Waiting k
      → (n ≢ k → m' ≡ m)
      × (n ≡ k → (y : S) × (m'.1 ≡ (0, Some y) ∷ m.1) × (m'.0 ≡ record m.0 { seen = entries y; stage = Serving k })
      × Lent m.0 y)

module _ {S E : Type 0} (entries : S → List E) (by : E → ℕ) where
  -- the state is back, and the seat has seen the entries that it left
  abbrev pub PassesOn : Step (Option S) → SeatState S E → ℕ → SeatState S E → Type 0
  PassesOn st m n m' = (y : S) → m.1 ≡ (0, Some y) ∷ []
      → (m'.1 ≡ []) × (m'.0 ≡ record m.0 { seen = entries y; mine = own by m.0.number (entries y); stage = Resting })
      × AreOfCallers by m.0.mark (entries y)

module _ {S E : Type 0} (by : E → ℕ) where
  -- what was seen and what was heard are both prefixes of what is seen
  abbrev pub Learns : Step (Option S) → SeatState S E → ℕ → SeatState S E → Type 0
  Learns st m n m' = (m' ≡ m) × IsPrefix m.0.before m.0.seen × IsPrefix m.0.heard m.0.seen
      × (own by m.0.source m.0.seen ≡ m.0.mine) × (0 < m.0.number → AreOfCallers by m.0.mark m.0.seen)
