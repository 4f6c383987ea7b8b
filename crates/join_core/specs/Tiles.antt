-- Left and right items in tiles. Only items of the same tile are compared.
use Rattle.std.specs.Prelude.{◌≡◌, ◌≢◌, ℕ, ◌*◌, ◌≤◌, ℤ, ◌≤ℤ◌, ◌<ℤ◌, ◌++◌, List, [], ◌∷◌, length, sum_by, All, AllPairs, Contains}
use Rattle.period_core.specs.Period.{Overlap}
use Rattle.dip_core.specs.declared.item.Item.{Item}
use Rattle.dip_core.specs.Item.{item_limit, HasDistinctIds}
use Rattle.list_core.specs.Wanted.{AddsAll}
use Rattle.join_core.specs.declared.rows.JoinRow.{JoinRow}
use Rattle.join_core.specs.declared.tiles.Tile.{Tile}
use Rattle.join_core.specs.ItemJoin.{IsItemsJoinRow}

-- Both items are in the tile, each on its side.
abbrev pub HasPair : Item → Item → Tile → Type 0
HasPair x y tile = Contains tile.left.items x × Contains tile.right.items y

-- Some of the items, with distinct ids, and few enough for one division.
pub record AreSome (items some : List Item) : Type 0 where
  pub among : (x : Item) → Contains some x → Contains items x
  pub ids : HasDistinctIds some
  pub few : length some ≤ item_limit

-- A left and a right item that share an instant are in one tile together, and no left and right item are in two.
pub record AreTiles (left right : List Item) (tiles : List Tile) : Type 0 where
  pub lefts : All (λ (tile : Tile). AreSome left tile.left.items) tiles
  pub rights : All (λ (tile : Tile). AreSome right tile.right.items) tiles
  pub whole : (x y : Item) → Contains left x → Contains right y → Overlap x.period y.period
      → (tile : Tile) × Contains tiles tile × HasPair x y tile
  pub once : AllPairs (λ a b. (x y : Item) → HasPair x y a → HasPair x y b → ⊥) tiles

-- The tile's items can be divided at once.
pub record IsDivisible (tile : Tile) : Type 0 where
  pub left_ids : HasDistinctIds tile.left.items
  pub right_ids : HasDistinctIds tile.right.items
  pub left_few : length tile.left.items ≤ item_limit
  pub right_few : length tile.right.items ≤ item_limit

-- How many items are read if each item of one side of a tile is compared with each item of the other side.
abbrev pub reads_in : List Tile → ℕ
reads_in tiles = sum_by (λ (tile : Tile). 2 * (length tile.left.items * length tile.right.items)) tiles

-- No item starts before an earlier one.
abbrev pub StartsRise : List Item → Type 0
StartsRise items = AllPairs (λ (x y : Item). x.period.from ≤ℤ y.period.from) items

-- The items that start before the cut, followed by the others.
pub record AreCutAt (cut : ℤ) (items started later : List Item) : Type 0 where
  pub whole : items ≡ started ++ later
  pub before : All (λ (x : Item). x.period.from <ℤ cut) started
  pub from : All (λ (x : Item). cut ≤ℤ x.period.from) later

-- The new tiles are the old ones and two more: the left items that start with all right items, and the earlier left
-- items with the right items that start.
pub record AddsTiles (early_left left early_right right : List Item) (old new : List Tile) : Type 0 where
  pub one : Tile
  pub other : Tile
  pub split : new ≡ old ++ (one ∷ other ∷ [])
  pub one_left : one.left.items ≡ left
  pub one_right : one.right.items ≡ early_right ++ right
  pub other_left : other.left.items ≡ early_left
  pub other_right : other.right.items ≡ right

-- A row of the tile's items.
abbrev pub IsRowOf : Tile → JoinRow → Type 0
IsRowOf tile row = IsItemsJoinRow tile.left.items tile.right.items row

-- No row belongs to both tiles.
abbrev pub HaveNoRow : Tile → Tile → Type 0
HaveNoRow a b = (row : JoinRow) → IsRowOf a row → IsRowOf b row → ⊥

-- The new rows are the old ones, followed by the rows of the tiles, each once.
abbrev pub AddsTilesRows : List Tile → (old new : List JoinRow) → Type 0
AddsTilesRows tiles old new =
    AddsAll (λ a b. a ≢ b) (λ row. (tile : Tile) × Contains tiles tile × IsRowOf tile row) old new
