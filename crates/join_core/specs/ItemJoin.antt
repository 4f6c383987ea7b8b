-- The join of two lists of items, which match if their classes are equal.
use Rattle.std.specs.Prelude.{◌≡◌, ◌≢◌, List, Contains}
use Rattle.dip_core.specs.declared.item.Item.{Item}
use Rattle.list_core.specs.Wanted.{IsListOf}
use Rattle.merge_core.specs.Hits.{IsShared}
use Rattle.join_core.specs.declared.rows.JoinRow.{JoinRow}
use Rattle.join_core.specs.Join.{RowBefore}

-- The ids of a left and a right item of one class that share an instant, with all instants that they share.
pub record IsItemsJoinRow (left right : List Item) (row : JoinRow) : Type 0 where
  pub x : Item
  pub y : Item
  pub x_in : Contains left x
  pub y_in : Contains right y
  pub left_id : row.left ≡ x.id
  pub right_id : row.right ≡ y.id
  pub matches : x.class ≡ y.class
  pub shared : IsShared x.period y.period row.period

-- All such rows, each once, by start, end, left id and right id.
abbrev pub IsItemsJoin : List Item → List Item → List JoinRow → Type 0
IsItemsJoin left right rows = IsListOf RowBefore (IsItemsJoinRow left right) rows

-- All such rows, each once, in any order.
abbrev pub AreItemsRows : List Item → List Item → List JoinRow → Type 0
AreItemsRows left right rows = IsListOf (λ a b. a ≢ b) (IsItemsJoinRow left right) rows
