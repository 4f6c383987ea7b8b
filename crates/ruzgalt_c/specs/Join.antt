-- The join of rows, and how it is written to lists.
use Rattle.std.specs.Prelude.{◌≡◌, ℕ, ◌<◌, ℤ, List, slice_index_or}
use Rattle.dip_core.specs.declared.item.Item.{Item}
use Rattle.join_core.specs.declared.rows.JoinRow.{JoinRow}
use Rattle.join_core.specs.ItemJoin.{IsItemsJoin}
use Rattle.ruzgalt_c.specs.Rows.{AreRows, Columns}

-- The join of left and right rows, which match if their classes are equal: each pair that shares an instant once, with
-- the whole period that it shares, by start, end, left index and right index.
pub record IsJoinOfRows (left right : Columns) (rows : List JoinRow) : Type 0 where
  pub left_items : List Item
  pub right_items : List Item
  pub lefts : AreRows left left_items
  pub rights : AreRows right right_items
  pub join : IsItemsJoin left_items right_items rows

-- The lists begin with the left indices, right indices, starts and ends of the first `n` rows.
pub record AreWritten (rows : List JoinRow) (n : ℕ) (left right : List ℕ) (from to : List ℤ) : Type 0 where
  pub lefts : (k e : ℕ) (d : JoinRow) → k < n → slice_index_or left k e ≡ (slice_index_or rows k d).left
  pub rights : (k e : ℕ) (d : JoinRow) → k < n → slice_index_or right k e ≡ (slice_index_or rows k d).right
  pub starts : (k : ℕ) (e : ℤ) (d : JoinRow) → k < n → slice_index_or from k e ≡ (slice_index_or rows k d).period.from
  pub ends : (k : ℕ) (e : ℤ) (d : JoinRow) → k < n → slice_index_or to k e ≡ (slice_index_or rows k d).period.to
