-- The rows of a join, found bundle by bundle and in any order, and the advances that found them.
use Rattle.std.specs.Prelude.{◌≡◌, ◌≢◌, ℕ, ◌+◌, ◌*◌, ◌^◌, ◌<◌, ◌≤◌, ℤ, List, [], ◌∷◌, ◌++◌, length, flat_map, Contains}
use Rattle.dip_core.specs.declared.item.Item.{Item}
use Rattle.dip_core.specs.Item.{crowd}
use Rattle.dip_core.specs.Division.{IsDivision}
use Rattle.join_core.specs.declared.advances.Advances.{Advances}
use Rattle.join_core.specs.declared.found.FoundRows.{FoundRows}
use Rattle.join_core.specs.declared.rows.JoinRow.{JoinRow}
use Rattle.join_core.specs.ItemJoin.{AreItemsRows}

-- The overlap count is at most `k` at each instant, whatever the classes.
abbrev pub HoldAtMost : ℕ → List Item → Type 0
HoldAtMost k items = (t : ℤ) → crowd items t ≤ k

-- Some division of the items has `parts` parts.
pub record HasParts (items : List Item) (parts : ℕ) : Type 0 where
  pub division : List (List Item)
  pub divides : IsDivision items division
  pub len : length division ≡ parts

-- The sides have divisions with these numbers of parts. If at most k left and at most m right items hold at once, the
-- advances are at most m times the number of left items plus k times the number of right items.
pub record AreMade (left right : List Item) (advances : Advances) : Type 0 where
  pub lefts : HasParts left advances.left_parts
  pub rights : HasParts right advances.right_parts
  pub at_most : (k m : ℕ) → HoldAtMost k left → HoldAtMost m right
      → advances.made ≤ m * length left + k * length right

-- The counts for some items and for others together.
abbrev pub both_made : Advances → Advances → Advances
both_made one other = record {
  made = one.made + other.made;
  left_parts = one.left_parts + other.left_parts;
  right_parts = one.right_parts + other.right_parts;
}

-- These sums fit 64 bits.
pub record FitTogether (one other : Advances) : Type 0 where
  pub made : one.made + other.made < 2 ^ 64
  pub lefts : one.left_parts + other.left_parts < 2 ^ 64
  pub rights : one.right_parts + other.right_parts < 2 ^ 64

-- The rows of items, and the advances that found them.
pub record AreFound (left right : List Item) (found : List JoinRow) (taken : Advances) : Type 0 where
  pub rows : AreItemsRows left right found
  pub advances : AreMade left right taken

abbrev pub IsFound : List Item → List Item → FoundRows → Type 0
IsFound left right found = AreFound left right found.rows.items found.advances

-- The rows of all results, and their advances.
abbrev pub all_rows : List FoundRows → List JoinRow
all_rows all = flat_map (λ (found : FoundRows). found.rows.items) all

abbrev pub all_made : List FoundRows → Advances
all_made [] = record { made = 0; left_parts = 0; right_parts = 0 }
all_made (found ∷ more) = both_made found.advances (all_made more)

-- These sums fit 64 bits.
pub record FitAll (all : List FoundRows) : Type 0 where
  pub made : (all_made all).made < 2 ^ 64
  pub lefts : (all_made all).left_parts < 2 ^ 64
  pub rights : (all_made all).right_parts < 2 ^ 64

-- The new rows are the old ones, followed by the rows of the items.
pub record AddsItemsRows (left right : List Item) (old new : List JoinRow) : Type 0 where
  pub added : List JoinRow
  pub split : new ≡ old ++ added
  pub rows : AreItemsRows left right added

-- No left or right item has the class of an item on the opposite side of the other lists.
pub record MatchNothing (left right other_left other_right : List Item) : Type 0 where
  pub forth : (x y : Item) → Contains left x → Contains other_right y → x.class ≢ y.class
  pub back : (x y : Item) → Contains other_left x → Contains right y → x.class ≢ y.class
