-- What a contract says of one call: the duties of the closure that gets the state, and what the caller has seen
-- afterwards.
use Rattle.std.specs.Prelude.{◌≡◌, ℕ, List, ◌⊎◌, [], ◌∷◌, ◌++◌}
use denote.Ref.{MutBor}
use Rattle.std.specs.Fn.{Once, FnOnceTakesAtMut, FnOnceReturnsAtMut}
use Rattle.turn_core.specs.declared.view.View.{View}
use Rattle.turn_core.specs.Entries.{own, AreOfCallers, AddsAtMostOne}
use Rattle.turn_core.specs.Steps.{Lent}

-- the same caller at the same turn
pub record IsSameCaller {E : Type 0} (v w : View E) : Type 0 where
  pub number : w.number ≡ v.number
  pub source : w.source ≡ v.source
  pub mark : w.mark ≡ v.mark

module _ {S E F R : Type 0} (entries : S → List E) (by : E → ℕ) (mark_of : S → ℕ)
    (g : Once F (MutBor S × Unit {0}) (R × (MutBor S × Unit {0}))) (f : F) (v : View E) where
  -- f may be called with each state that the seat may get; it keeps the mark and the entries, and adds at most one,
  -- with the seat's number
  abbrev pub KeepsEntries : Type 0
  KeepsEntries = (x : S) → Lent entries by mark_of v x
      → FnOnceTakesAtMut g f x
      × ((r : R) (y : S) → FnOnceReturnsAtMut g f x r y
      → (mark_of y ≡ mark_of x) × AddsAtMostOne by v.number (entries x) (entries y))

  -- f was called once, with a state that begins with all that the seat had seen; the seat has now seen the entries that
  -- f left, and its own entries are the old ones and the one that f added
  pub record Ran (r : R) (w : View E) : Type 0 where
    pub lent : S
    pub left : S
    pub fits : Lent entries by mark_of v lent
    pub ran : FnOnceReturnsAtMut g f lent r left
    pub seen : w.seen ≡ entries left
    pub own : own by v.number w.seen ≡ w.mine
    pub mine : ((w.seen ≡ entries lent) × (w.mine ≡ v.mine))
        ⊎ ((e : E) × (by e ≡ v.number) × (w.seen ≡ entries lent ++ e ∷ []) × (w.mine ≡ v.mine ++ e ∷ []))
    pub numbered : AreOfCallers by v.mark w.seen
