-- A side's items in any order.
use Rattle.std.proofs.Common.{◌≡◌, ◌∙◌, ◌≤◌, ℕ, List, length, map, refl, sym, subst, arith}
use Rattle.std.specs.Prelude.{IsPermutation}
use Rattle.std.proofs.lemmas.List.Sorted.{IsPermutation-map, IsPermutation-sym, length_permutation}
use Rattle.row_core.specs.Rows.{RowsRise}
use Rattle.row_core.specs.declared.row.Row.{Row}
use Rattle.dip_core.specs.declared.item.Item.{Item}
use Rattle.dip_core.specs.Division.{IsLeast}
use Rattle.dip_core.specs.Item.{HasDistinctIds}
use Rattle.dip_core.proofs.DivisionLemmas.{HasDistinctIds-permutation, IsLeast-permutation}
use Rattle.match_core.specs.Items.{AreItemsByClass, items_of, items_with, unclassed}
use Rattle.match_core.proofs.SideIds.{side-distinct}
use Rattle.match_core.proofs.Sided.{IsSide, side_len}
use Rattle.join_core.proofs.RowLemmas.{side-unclassed}

-- The items are the rows' items with the classes, in some order.
pub record IsMovedSide (rows : List Row) (classes : List ℕ) (items : List Item) : Type 0 where
  pub moved : IsPermutation (items_with rows classes) items
  pub enough : length rows ≤ length classes

-- items made from a side's rows and their classes
pub moved_made : (rows : List Row) (classes : List ℕ) (items : List Item) → AreItemsByClass rows classes items
    → length classes ≡ length rows → IsMovedSide rows classes items
moved_made rows classes items made count = record { moved = made.same; enough = omega (arith, count) }

-- the same side in the order of its rows
in_order : (rows : List Row) (classes : List ℕ) (items : List Item) → IsMovedSide rows classes items
    → IsSide rows classes (items_with rows classes)
in_order rows classes items side = record { are = refl; enough = side.enough }

-- the number of items is the number of rows
pub moved_len : (rows : List Row) (classes : List ℕ) (items : List Item) → IsMovedSide rows classes items
    → length items ≡ length rows
moved_len rows classes items side =
    let all = items_with rows classes in
    length_permutation all items side.moved ∙ side_len rows classes all (in_order rows classes items side)

-- their ids are distinct
pub moved_distinct : (rows : List Row) (classes : List ℕ) (items : List Item) → IsMovedSide rows classes items
    → RowsRise rows → HasDistinctIds items
moved_distinct rows classes items side rise =
    let all = items_with rows classes in
    HasDistinctIds-permutation all items side.moved
    (side-distinct rows classes all (in_order rows classes items side) rise)

-- their least number of parts is the rows' one
pub moved_least : (rows : List Row) (classes : List ℕ) (items : List Item) → IsMovedSide rows classes items
    → (k : ℕ) → IsLeast (items_of rows) k → IsLeast (map unclassed items) k
moved_least rows classes items side k least =
    let all = items_with rows classes in
    IsLeast-permutation (map unclassed items) (map unclassed all) k
    (IsPermutation-map unclassed items all (IsPermutation-sym all items side.moved))
    (subst (λ (l : List Item). IsLeast l k)
    (sym (side-unclassed rows classes all (in_order rows classes items side))) least)
