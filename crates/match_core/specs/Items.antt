-- Rows as items, for dividing and merging.
use Rattle.std.specs.Prelude.{ℕ, List, [], ◌∷◌, IsPermutation, map, pos, filter}
use Rattle.std.specs.List.Sorted.{IsNonDecreasingBy}
use Rattle.std.specs.Ordering.{nat_cmp}
use Rattle.row_core.specs.declared.row.Row.{Row}
use Rattle.dip_core.specs.declared.item.Item.{Item}
use Rattle.work_core.specs.Ranges.{has}
use Rattle.work_core.specs.declared.range.Range.{Range}

-- A row as an item of a division. All rows are in one class.
abbrev pub item_of : Row → Item
item_of row = record { period = row.period; id = row.id; class = 0; amount = pos 0 }

-- Rows as such items.
abbrev pub items_of : List Row → List Item
items_of rows = map item_of rows

-- A row as an item of a class.
abbrev pub item_with : Row → ℕ → Item
item_with row class = record { period = row.period; id = row.id; class = class; amount = pos 0 }

-- Rows as items with their classes.
abbrev pub items_with : List Row → List ℕ → List Item
items_with [] classes = []
items_with (row ∷ rows) [] = []
items_with (row ∷ rows) (class ∷ classes) = item_with row class ∷ items_with rows classes

-- Rows as items with their classes, but only rows whose class is within a range.
abbrev pub items_in_range : Range ℕ → List Row → List ℕ → List Item
items_in_range range rows classes = filter (λ (x : Item). has nat_cmp range x.class) (items_with rows classes)

-- Rows as items with their classes, lower classes first.
pub record AreItemsByClass (rows : List Row) (classes : List ℕ) (items : List Item) : Type 0 where
  pub same : IsPermutation (items_with rows classes) items
  pub rise : IsNonDecreasingBy (λ (x : Item). x.class) items

-- An item, moved into the one class of all rows.
abbrev pub unclassed : Item → Item
unclassed x = record { period = x.period; id = x.id; class = 0; amount = pos 0 }
