-- The rows of a bundle, and the indices of a join's rows.
use Rattle.std.proofs.Common.{◌≡◌, ◌<◌, ◌≤◌, List, Option, Some, length, get_or, refl, subst, arith}
use Rattle.std.specs.Global.{Vec}
use Rattle.std.specs.Prelude.{All, Contains, IfSome}
use Rattle.std.proofs.lemmas.List.Elements.{All-contains, Contains-get_or}
use Rattle.dip_core.specs.declared.item.Item.{Item}
use Rattle.dip_core.specs.Division.{IsLeastDivision}
use Rattle.dip_core.specs.Item.{item_limit}
use Rattle.join_core.specs.declared.rows.JoinRow.{JoinRow}
use Rattle.join_core.specs.declared.tiles.Tile.{Tile}
use Rattle.join_core.specs.Found.{AreMade}
use Rattle.join_core.specs.ItemJoin.{IsItemsJoin}
use Rattle.join_core.specs.Tiles.{AreTiles}
use Rattle.join_core.proofs.FoundLemmas.{AreMade-within}
use Rattle.ruzgalt_c.specs.Rows.{AreRows, Columns}
use Rattle.ruzgalt_c.proofs.RowLemmas.{ids-within}

-- Some number of advances is within the bound. Nobody counts advances here.
pub some-made : (left right : List Item) (lefts rights : List (List Item)) → IsLeastDivision left lefts
    → IsLeastDivision right rights → (made : _) × AreMade left right made
some-made left right lefts rights one other = (
  record { made = 0; left_parts = length lefts; right_parts = length rights },
  AreMade-within left right lefts rights one other
      (record { made = 0; left_parts = length lefts; right_parts = length rights }) (omega arith) refl refl,
)

-- The tiles that were found.
pub tiles-found : (left right : List Item) (tiles : Vec Tile) (found : Option (Vec Tile)) → found ≡ Some tiles
    → IfSome found (λ some. AreTiles left right some.items) → AreTiles left right tiles.items
tiles-found left right tiles found is are =
    subst (λ (o : Option (Vec Tile)). IfSome o (λ some. AreTiles left right some.items)) is are

-- Each index is less than the number of its side's rows.
pub indices-few : (left right : Columns) (lefts rights : List Item) (rows : List JoinRow) → AreRows left lefts
    → AreRows right rights → length left.from ≤ item_limit → length right.from ≤ item_limit
    → IsItemsJoin lefts rights rows → All (λ (row : JoinRow). (row.left < item_limit) × (row.right < item_limit)) rows
indices-few left right lefts rights rows one other left_few right_few join k d h =
    let is = (join.exactly (get_or rows k d)).0 (Contains-get_or rows k d h) in
    let x : is.x.id < length left.from =
    All-contains (λ (z : Item). z.id < length left.from) lefts is.x (ids-within left lefts one) is.x_in in
    let y : is.y.id < length right.from =
    All-contains (λ (z : Item). z.id < length right.from) rights is.y (ids-within right rights other) is.y_in in
    let e : (get_or rows k d).left ≡ is.x.id = is.left_id in
    let f : (get_or rows k d).right ≡ is.y.id = is.right_id in
    (omega (arith, x, e, left_few), omega (arith, y, f, right_few))
