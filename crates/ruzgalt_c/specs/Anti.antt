-- The anti-join of rows, and how it is written to lists.
use Rattle.std.specs.Prelude.{◌≡◌, ℕ, ◌<◌, ℤ, ◌≤ℤ◌, List, ◌++◌, AllPairs, slice_index_or}
use Rattle.dip_core.specs.declared.item.Item.{Item}
use Rattle.anti_core.specs.declared.rows.AntiRow.{AntiRow}
use Rattle.anti_core.specs.ItemAnti.{AreItemsRows, IsItemsAnti}
use Rattle.ruzgalt_c.specs.Rows.{AreRows, Columns}

-- The anti-join of left and right rows, which match if their classes are equal: each maximal period in which a left row
-- holds and no right row of its class does, with the left row's index, by index and start.
pub record IsAntiOfRows (left right : Columns) (rows : List AntiRow) : Type 0 where
  pub left_items : List Item
  pub right_items : List Item
  pub lefts : AreRows left left_items
  pub rights : AreRows right right_items
  pub anti : IsItemsAnti left_items right_items rows

-- If two items have the same class, the earlier one ends by the start of the later one.
abbrev pub HoldApart : List Item → Type 0
HoldApart items = AllPairs (λ (a b : Item). a.class ≡ b.class → a.period.to ≤ℤ b.period.from) items

-- The rows of the items were appended to the old rows.
pub record AddsAntiRows (left right : List Item) (old new : List AntiRow) : Type 0 where
  pub added : List AntiRow
  pub split : new ≡ old ++ added
  pub rows : AreItemsRows left right added

-- The lists begin with the indices, starts and ends of the first `n` rows.
pub record AreAntiWritten (rows : List AntiRow) (n : ℕ) (left : List ℕ) (from to : List ℤ) : Type 0 where
  pub lefts : (k e : ℕ) (d : AntiRow) → k < n → slice_index_or left k e ≡ (slice_index_or rows k d).id
  pub starts : (k : ℕ) (e : ℤ) (d : AntiRow) → k < n → slice_index_or from k e ≡ (slice_index_or rows k d).period.from
  pub ends : (k : ℕ) (e : ℤ) (d : AntiRow) → k < n → slice_index_or to k e ≡ (slice_index_or rows k d).period.to
