-- Items in ascending order of class, and the items of some classes.
use Rattle.std.specs.Prelude.{◌≡◌, ◌<◌, ◌≤◌, ◌++◌, ℕ, List, All, filter}
use Rattle.std.specs.Ordering.{nat_cmp}
use Rattle.std.specs.List.Sorted.{IsNonDecreasingBy}
use Rattle.dip_core.specs.declared.item.Item.{Item}
use Rattle.work_core.specs.Ranges.{has}
use Rattle.work_core.specs.declared.range.Range.{Range}

-- No item has a higher class than a later one.
abbrev pub ClassesRise : List Item → Type 0
ClassesRise items = IsNonDecreasingBy (λ (x : Item). x.class) items

-- The items of classes lower than `class`, followed by the others.
pub record ArePartedAt (class : ℕ) (items low high : List Item) : Type 0 where
  pub whole : items ≡ low ++ high
  pub below : All (λ (x : Item). x.class < class) low
  pub from : All (λ (x : Item). class ≤ x.class) high

-- The items of class `class` and of higher ones, which follow the items of lower classes.
pub record AreFromClass (class : ℕ) (items high : List Item) : Type 0 where
  pub low : List Item
  pub whole : items ≡ low ++ high
  pub below : All (λ (x : Item). x.class < class) low
  pub from : All (λ (x : Item). class ≤ x.class) high

-- The items whose classes are within a range.
abbrev pub items_in : Range ℕ → List Item → List Item
items_in range items = filter (λ (x : Item). has nat_cmp range x.class) items
