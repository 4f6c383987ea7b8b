-- The coalesced items of each class: the maximal periods of the instants at which some item of the class holds.
use Rattle.std.specs.Prelude.{◌≡◌, ◌⊎◌, ◌<◌, ◌↔◌, ℤ, pos, ◌<ℤ◌, ◌≤ℤ◌, List, length, ◌≤◌, AllPairs}
use Rattle.std.specs.Int.{int_max}
use Rattle.dip_core.specs.declared.item.Item.{Item}
use Rattle.list_core.specs.Wanted.{IsListOf}
use Rattle.merge_core.specs.Gaps.{IsCovered, IsMaximal}

-- A class with a maximal period of the instants at which some item of the class holds. It belongs to no single row, so
-- it has id 0 and amount 0.
pub record IsUnited (items : List Item) (united : Item) : Type 0 where
  pub id : united.id ≡ 0
  pub amount : united.amount ≡ pos 0
  pub maximal : IsMaximal (IsCovered items united) united.period

-- `a` comes before `b` by class and start.
abbrev pub StandsBefore : Item → Item → Type 0
StandsBefore a b = (a.class < b.class) ⊎ ((a.class ≡ b.class) × (a.period.from <ℤ b.period.from))

-- All such items, each once, by class and start.
abbrev pub AreUnited : List Item → List Item → Type 0
AreUnited items united = IsListOf StandsBefore (IsUnited items) united

-- At each instant, a class has an item that holds in one list exactly if it has one in the other list.
abbrev pub CoverAlike : List Item → List Item → Type 0
CoverAlike items others = (x : Item) (t : ℤ) → IsCovered items x t ↔ IsCovered others x t

-- The coalesced items. They cover the same instants as the items, and are no more than these.
pub record IsUnion (items united : List Item) : Type 0 where
  pub all : AreUnited items united
  pub alike : CoverAlike items united
  pub fewer : length united ≤ length items

-- The items are in order of class and start.
abbrev pub StandByClass : List Item → Type 0
StandByClass items =
    AllPairs (λ (a b : Item). (a.class < b.class) ⊎ ((a.class ≡ b.class) × (a.period.from ≤ℤ b.period.from))) items

-- `b` has the class of `a`, and starts no later than `a` ends.
pub record RunsInto (a b : Item) : Type 0 where
  pub same : a.class ≡ b.class
  pub reaches : b.period.from ≤ℤ a.period.to

-- The class and the period of `x`, without id and amount.
pub record IsPlain (x plain : Item) : Type 0 where
  pub id : plain.id ≡ 0
  pub amount : plain.amount ≡ pos 0
  pub class_is : plain.class ≡ x.class
  pub period : plain.period ≡ x.period

-- Both items as one, from the start of the first to the later end.
pub record IsMerged (a b joined : Item) : Type 0 where
  pub id : joined.id ≡ 0
  pub amount : joined.amount ≡ pos 0
  pub class_is : joined.class ≡ a.class
  pub from : joined.period.from ≡ a.period.from
  pub to : joined.period.to ≡ int_max a.period.to b.period.to
