-- The periods of one part's items in which no item of equal class of another part holds.
use Rattle.std.specs.Prelude.{◌≡◌, ◌+◌, ◌≤◌, ℕ, List, length, ℤ, pos, ◌-ℤ◌, ◌<ℤ◌, Contains}
use Rattle.period_core.specs.declared.period.Period.{Period}
use Rattle.period_core.specs.Period.{Holds}
use Rattle.dip_core.specs.declared.item.Item.{Item}
use Rattle.list_core.specs.Wanted.{IsListOf}
use Rattle.merge_core.specs.declared.gap.Gap.{Gap}

-- Some right item of the class of `x` holds `t`.
pub record IsCovered (right : List Item) (x : Item) (t : ℤ) : Type 0 where
  pub by : Item
  pub by_in : Contains right by
  pub matches : by.class ≡ x.class
  pub holds : Holds by.period t

-- `x` holds `t`, and no right item of its class does.
pub record IsUncovered (right : List Item) (x : Item) (t : ℤ) : Type 0 where
  pub held : Holds x.period t
  pub uncovered : IsCovered right x t → ⊥

-- The set contains the period, but neither the instant before it nor the instant after it.
pub record IsMaximal (Within : ℤ → Type 0) (p : Period) : Type 0 where
  pub inside : (t : ℤ) → Holds p t → Within t
  pub before : Within (p.from -ℤ pos 1) → ⊥
  pub after : Within p.to → ⊥

-- A left item, and a maximal uncovered period of it.
pub record IsGap (left right : List Item) (gap : Gap) : Type 0 where
  pub left_in : Contains left gap.left
  pub maximal : IsMaximal (IsUncovered right gap.left) gap.period

-- The order of gaps, by start.
abbrev pub GapStartsBefore : Gap → Gap → Type 0
GapStartsBefore a b = a.period.from <ℤ b.period.from

-- All gaps of the left items, in ascending order of start.
abbrev pub ListsGaps : List Item → List Item → List Gap → Type 0
ListsGaps left right gaps = IsListOf GapStartsBefore (IsGap left right) gaps

-- The bounds of `n` advances: at least the number of left items, at most the number of all items.
pub record AreGapAdvances (left right : List Item) (n : ℕ) : Type 0 where
  pub at_least : length left ≤ n
  pub at_most : n ≤ length left + length right
