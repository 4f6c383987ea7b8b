-- What workers start with and what they return: values of calls, one for each call whose number they drew.
use Rattle.std.specs.Prelude.{◌≡◌, ℕ, ◌+◌, ◌<◌, ◌≤◌, ◌==◌, if◌then◌else◌, All, List, [], ◌∷◌, ◌++◌, length, map, replicate, IfOk, IsErr, Result, Ok, Option, Some, None, is_some, slice_index_or, slice_set}
use Rattle.atomic_table.specs.Seated.{TableId}
use Rattle.atomic_table.specs.declared.shared.Seat.{Seat}
use Rattle.work_core.specs.declared.kept.KeptValues.{KeptValues}
use Rattle.work_core.specs.declared.numbered.Numbered.{Numbered}
use Rattle.work_core.specs.declared.worker.Worker.{Worker}
use Rattle.work_core.specs.declared.worker.WorkerAnswer.{WorkerAnswer}
use Rattle.work_core.specs.declared.claim_view.ClaimView.{ClaimView}
use Rattle.work_core.specs.Claims.{worker_view}
use Rattle.work_core.specs.Collected.{AreAtTheirPlaces}
use Rattle.work_core.specs.Counting.{times}

-- a seat at this table that has drawn nothing
abbrev pub IsFreshSeat : TableId → Seat (Unit {0}) ClaimView → Type 0
IsFreshSeat table seat = (seat.table_id ≡ table) × (seat.me ≡ (worker_view, []))

-- a worker at this table that has drawn nothing and keeps nothing
abbrev pub IsFreshWorker : {T : Type 0} → TableId → Worker T → Type 0
IsFreshWorker table worker = IsFreshSeat table worker.seat
    × (worker.kept.places.items ≡ replicate (length worker.kept.places.items) None) × (worker.kept.values.items ≡ [])

-- how many slots the worker at index k of m workers has: the last has n, and the others have none
abbrev pub places_of : ℕ → ℕ → ℕ → ℕ
places_of m n k = if k + 1 == m then n else 0

-- each worker of the team has that many slots
abbrev pub HasPlaces : {T : Type 0} → ℕ → List (Worker T) → Type 0
HasPlaces {T} n team = (k : ℕ) (d : Worker T) → k < length team
    → length (slice_index_or team k d).kept.places.items ≡ places_of (length team) n k

-- the numbers of some numbered values
abbrev pub numbers_of : {T : Type 0} → List (Numbered T) → List ℕ
numbers_of values = map (λ v. v.number) values

-- how many values the slot has: 1, or 0 if it is empty
abbrev pub count_at : {T : Type 0} → List (Option T) → ℕ → ℕ
count_at places x = if is_some (slice_index_or places x None) then 1 else 0

-- how many values of the call with this number are kept
abbrev pub count_kept : {T : Type 0} → KeptValues T → ℕ → ℕ
count_kept kept x = count_at kept.places.items x + times x (numbers_of kept.values.items)

-- one value more is kept, with its number: in its slot, or in the list if it has none
pub record KeepsValue {T : Type 0} (n : ℕ) (o : T) (old new : KeptValues T) : Type 0 where
  pub placed : n < length old.places.items
      → (new.places.items ≡ slice_set old.places.items n (Some o)) × (new.values.items ≡ old.values.items)
  pub listed : length old.places.items ≤ n → (new.places.items ≡ old.places.items)
      × (new.values.items ≡ old.values.items ++ record { number = n; value = o } ∷ [])

module _ {Out : Type 0} (IsValue : ℕ → Out → Type 0) where
  -- the call with number n was made, and its value is kept
  pub record IsCalled (n : ℕ) (old new : KeptValues Out) : Type 0 where
    pub value : Out
    pub gives : IsValue n value
    pub keeps : KeepsValue n value old new

  -- no earlier call was refused, and the call with number n was made
  pub record IsCalledAfter {E : Type 0} (n : ℕ) (old : Result (KeptValues Out) E) (new : KeptValues Out) : Type 0 where
    pub before : KeptValues Out
    pub was : old ≡ Ok before
    pub call : IsCalled n before new

module _ {Out : Type 0} (count : ℕ) (IsValue : ℕ → Out → Type 0) where
  -- a value of the call with its number
  pub record IsOfItsCall (v : Numbered Out) : Type 0 where
    pub inside : v.number < count
    pub gives : IsValue v.number v.value

  -- the values kept are values of their calls, and there is one for each call whose number was drawn; the numbers in
  -- `more` are drawn and still to be called
  pub record AreOfDrawn (drawn more : List ℕ) (kept : KeptValues Out) : Type 0 where
    pub placed : AreAtTheirPlaces IsValue kept.places.items
    pub listed : All IsOfItsCall kept.values.items
    pub whole : count ≤ length kept.places.items → kept.values.items ≡ []
    pub each : (x : ℕ) → x < count → 0 < times x drawn → 0 < count_kept kept x + times x more

  -- one of the numbers drawn is a call's
  abbrev pub HasDrawnCall : List ℕ → Type 0
  HasDrawnCall drawn = (x : ℕ) × (x < count) × (0 < times x drawn)

  -- a worker with n slots drew until a number was past the last call; its values, if no call was refused, are those of
  -- the numbers drawn; if a call was refused, it has drawn one
  pub record IsWorkerAnswer (table : TableId) (n : ℕ) (answer : WorkerAnswer Out) : Type 0 where
    pub table_is : answer.seat.table_id ≡ table
    pub free : answer.seat.me.1 ≡ []
    pub part : answer.seat.me.0.parts ≡ 1
    pub past : count < answer.seat.me.0.least
    pub places : IfOk answer.kept (λ kept. length kept.places.items ≡ n)
    pub values : IfOk answer.kept (λ kept. AreOfDrawn answer.seat.me.0.drawn [] kept)
    pub refused : IsErr answer.kept → HasDrawnCall answer.seat.me.0.drawn

  -- the answers of a team whose last worker has a slot for each call
  abbrev pub AreAnswers : TableId → List (WorkerAnswer Out) → Type 0
  AreAnswers table answers = (k : ℕ) (d : WorkerAnswer Out) → k < length answers
      → IsWorkerAnswer table (places_of (length answers) count k) (slice_index_or answers k d)
