-- The invariants of finding the gaps of one left item, while the right items are passed.
use Rattle.std.specs.Prelude.{◌≡◌, ◌+◌, ℕ, List, ◌∷◌, ◌++◌, length, ℤ, ◌≤ℤ◌, ◌<ℤ◌, Bool, not, int_lt, Contains}
use Rattle.dip_core.specs.declared.item.Item.{Item}
use Rattle.dip_core.specs.Item.{IsChain}
use Rattle.list_core.specs.Wanted.{IsListOf}
use Rattle.merge_core.specs.declared.gap.Gap.{Gap}
use Rattle.merge_core.specs.Gaps.{IsCovered, IsUncovered, IsMaximal, GapStartsBefore}

-- A gap of `x`.
pub record IsGapOf (right : List Item) (x : Item) (gap : Gap) : Type 0 where
  pub left : gap.left ≡ x
  pub maximal : IsMaximal (IsUncovered right x) gap.period

-- The gap of `x` between two instants.
pub record IsBetween (x : Item) (start end : ℤ) (gap : Gap) : Type 0 where
  pub left : gap.left ≡ x
  pub from : gap.period.from ≡ start
  pub to : gap.period.to ≡ end

-- An instant from `at` on, before the end of `x`, that no right item of the class of `x` holds.
pub record IsUncoveredFrom (right : List Item) (x : Item) (at t : ℤ) : Type 0 where
  pub from : at ≤ℤ t
  pub to : t <ℤ x.period.to
  pub uncovered : IsCovered right x t → ⊥

-- A gap of `x` from `at` on.
pub record IsGapFrom (right : List Item) (x : Item) (at : ℤ) (gap : Gap) : Type 0 where
  pub left : gap.left ≡ x
  pub maximal : IsMaximal (IsUncoveredFrom right x at) gap.period

-- All gaps of `x` from `at` on, in ascending order of start.
abbrev pub ListsGapsFrom : List Item → Item → ℤ → List Gap → Type 0
ListsGapsFrom right x at gaps = IsListOf GapStartsBefore (IsGapFrom right x at) gaps

-- The gaps before `y` were added; the gaps from `next` on are still to be found.
pub record Covers (x y : Item) (at : ℤ) (old new : List Gap) (next : ℤ) : Type 0 where
  pub added : List Gap
  pub split : new ≡ old ++ added
  pub goes_on : (later : List Item) → IsChain (y ∷ later) → (rest : List Gap)
      → ListsGapsFrom later x next rest → ListsGapsFrom (y ∷ later) x at (added ++ rest)
  pub within : (later : List Item) → IsChain (y ∷ later) → (gap : Gap) → IsGapFrom later x next gap
      → IsGapFrom (y ∷ later) x at gap

-- `x` has a gap from `at` on, whatever items follow `y`.
pub record HasGapBefore (x y : Item) (at : ℤ) : Type 0 where
  pub gap : Gap
  pub is : (later : List Item) → IsChain (y ∷ later) → IsGapFrom (y ∷ later) x at gap

-- Whether an item ends at or before an instant.
abbrev pub has_ended : ℤ → Item → Bool
has_ended end x = not (int_lt end x.period.to)

-- Each item ends after an instant.
abbrev pub EndLater : ℤ → List Item → Type 0
EndLater end items = (y : Item) → Contains items y → end <ℤ y.period.to

-- `n` items were passed, and none of them ends after an instant.
pub record PassesUpto (end : ℤ) (old new : List Item) (n : ℕ) : Type 0 where
  pub passed : List Item
  pub split : old ≡ passed ++ new
  pub over : (y : Item) → Contains passed y → y.period.to ≤ℤ end
  pub count : n + length new ≡ length old

-- The old list is a prefix of the new one.
pub record Extends (old new : List Gap) : Type 0 where
  pub more : List Gap
  pub split : new ≡ old ++ more
