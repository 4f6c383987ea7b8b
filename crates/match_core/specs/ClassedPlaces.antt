-- Indices of rows, each with a class.
use Rattle.std.specs.Prelude.{ℕ, suc, List, [], ◌∷◌, IsPermutation, Option, option_map, slice_get, slice_index}
use Rattle.std.specs.List.Sorted.{IsNonDecreasingBy}
use Rattle.row_core.specs.declared.row.Row.{Row}
use Rattle.dip_core.specs.declared.item.Item.{Item}
use Rattle.match_core.specs.declared.row_items.ClassedPlace.{ClassedPlace}
use Rattle.match_core.specs.Items.{item_with}

-- The indices from `place` on, each with its class.
abbrev pub placed_from : ℕ → List ℕ → List ClassedPlace
placed_from place [] = []
placed_from place (class ∷ classes) = record { class = class; place = place } ∷ placed_from (suc place) classes

-- The indices of rows with their classes, lower classes first.
pub record AreByClass (classes : List ℕ) (places : List ClassedPlace) : Type 0 where
  pub same : IsPermutation (placed_from 0 classes) places
  pub rise : IsNonDecreasingBy (λ (at : ClassedPlace). at.class) places

-- An index with its class in `classes`.
abbrev pub classed_by : List ℕ → ClassedPlace → ClassedPlace
classed_by classes at = record { class = slice_index classes at.place; place = at.place }

-- An index with the number of its class.
abbrev pub numbered_by : List ℕ → ClassedPlace → ClassedPlace
numbered_by numbers at = record { class = slice_index numbers at.class; place = at.place }

-- The row at an index as an item of the class given there, if there is such a row.
abbrev pub item_placed : List Row → ClassedPlace → Option Item
item_placed rows at = option_map (λ (row : Row). item_with row at.class) (slice_get rows at.place)
