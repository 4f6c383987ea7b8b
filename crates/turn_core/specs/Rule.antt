-- The rule of the turn, over the two words, the slot and the views of all seats. Word 0 counts the tickets that were
-- drawn, word 1 those that were served. The slot has the state, unless the caller being served has it.
use Rattle.std.specs.Prelude.{◌≡◌, ℕ, ◌+◌, ◌<◌, ◌≤◌, Bool, true, false, List, [], ◌∷◌, Option, Some, sum_by}
use mathlib.Core.Option.{some, none}
use mathlib.Core.List.{IsPrefix}
use lib.ListN.{get_elem?}
use Rattle.atomic_table.specs.Table.{State}
use Rattle.turn_core.specs.Entries.{own, AreOfCallers}
use Rattle.turn_core.specs.Limits.{ticket_limit}
use Rattle.turn_core.specs.declared.view.View.{View}
use Rattle.turn_core.specs.declared.view.Stage.{Stage}
use Rattle.turn_core.specs.declared.view.Stage.TheVariants.{Resting, Waiting, Serving}

-- all entries, the tickets drawn and served, whether the state is out, the seat that drew each ticket, and the seat
-- that has each number
pub record Round (E : Type 0) : Type 0 where
  pub log : List E
  pub drawn : ℕ
  pub served : ℕ
  pub out : Bool
  pub drawer : ℕ → ℕ
  pub holder : ℕ → ℕ

module _ {E : Type 0} (x : Round E) (i : ℕ) (seen : List E) where
  -- a waiting ticket is the seat's own, and isn't served yet; a seat being served has the state, and has seen all
  -- entries
  abbrev pub StageFits : Stage → Type 0
  StageFits Resting = Unit {0}
  StageFits (Waiting k) = (x.served ≤ k) × (k < x.drawn) × (x.drawer k ≡ i) × (k ≡ x.served → x.out ≡ false)
  StageFits (Serving k) = (k ≡ x.served) × (x.drawer k ≡ i) × (x.out ≡ true) × (seen ≡ x.log)

-- a caller's seat: its number and the ones not given out yet are its own, and it knows all of its entries
pub record Sits {E : Type 0} (by : E → ℕ) (seats : ℕ) (x : Round E) (i : ℕ) (v : View E) : Type 0 where
  pub mark : v.mark ≡ seats
  pub source : v.source ≡ v.number
  pub last : v.number + v.spare ≤ seats
  pub top : 0 < v.spare → v.number + v.spare ≡ seats
  pub holds : (k : ℕ) → v.number ≤ k → k ≤ v.number + v.spare → x.holder k ≡ i
  pub mine : own by v.number x.log ≡ v.mine
  pub unused : (k : ℕ) → v.number < k → k ≤ v.number + v.spare → own by k x.log ≡ []

-- a seat: the entries that it has seen are a prefix of all, and include all its source's
pub record Fits {E : Type 0} (by : E → ℕ) (seats : ℕ) (x : Round E) (i : ℕ) (v : View E) : Type 0 where
  pub sits : 0 < v.number → Sits by seats x i v
  pub seen : IsPrefix v.seen x.log
  pub own : own by v.source v.seen ≡ v.mine
  pub before : IsPrefix v.before v.seen
  pub heard : IsPrefix v.heard v.seen
  pub stage : StageFits x i v.seen v.stage

-- the rule
pub record Serves {S E : Type 0} (entries : S → List E) (by : E → ℕ) (mark : S → ℕ) (seats : ℕ)
    (s : State (Option S) (View E)) : Type 0 where
  pub x : Round E
  pub words : s.words ≡ x.drawn ∷ x.served ∷ []
  pub budget : x.drawn + sum_by (λ (v : View E). v.left) s.views ≤ ticket_limit
  pub behind : x.served ≤ x.drawn
  pub gone : x.out ≡ true → (s.homes ≡ none ∷ []) × (x.served < x.drawn)
  pub home : x.out ≡ false → (y : S) × (s.homes ≡ some (Some y) ∷ []) × (entries y ≡ x.log) × (mark y ≡ seats)
  pub numbered : AreOfCallers by seats x.log
  pub each : (i : ℕ) (v : View E) → get_elem? s.views i ≡ some v → Fits by seats x i v
