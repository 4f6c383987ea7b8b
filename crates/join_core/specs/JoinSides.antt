-- The rows of both sides of a join as items, which are joined in their place.
use Rattle.std.specs.Prelude.{◌≡◌, ℕ, List, length, map}
use Rattle.row_core.specs.declared.row.Row.{Row}
use Rattle.dip_core.specs.declared.item.Item.{Item}
use Rattle.dip_core.specs.Division.{IsLeast}
use Rattle.dip_core.specs.Item.{HasDistinctIds}
use Rattle.grid_core.specs.Bundles.{ClassesRise}
use Rattle.match_core.specs.Items.{items_of, unclassed}
use Rattle.join_core.specs.declared.rows.JoinRow.{JoinRow}
use Rattle.join_core.specs.Join.{IsJoin}
use Rattle.join_core.specs.ItemJoin.{IsItemsJoin}

-- The items are a side's rows in order of class: as many, with ids of their own, and with the same least number of parts.
pub record IsSideOf (rows : List Row) (items : List Item) : Type 0 where
  pub count : length items ≡ length rows
  pub rise : ClassesRise items
  pub ids : HasDistinctIds items
  pub least : (k : ℕ) → IsLeast (items_of rows) k → IsLeast (map unclassed items) k

-- The items are both sides' rows, and the join of the items is the join of the rows.
pub record AreSidesOf (Matches : Row → Row → Type 0) (lefts rights : List Row) (ones others : List Item) : Type 0 where
  pub left : IsSideOf lefts ones
  pub right : IsSideOf rights others
  pub join : (found : List JoinRow) → IsItemsJoin ones others found → IsJoin Matches lefts rights found
