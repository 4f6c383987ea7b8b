-- The items of both sides, by their classes.
use Rattle.std.proofs.Common.{◌≡◌, ◌∙◌, ℕ, ◌≤◌, List, length, ap, arith}
use Rattle.row_core.specs.declared.row.Row.{Row}
use Rattle.dip_core.specs.declared.item.Item.{Item}
use Rattle.match_core.specs.Items.{items_with}
use Rattle.match_core.proofs.RowItems.{length-items_with}

-- The items are the rows' items with the classes.
pub record IsSide (rows : List Row) (classes : List ℕ) (items : List Item) : Type 0 where
  pub are : items ≡ items_with rows classes
  pub enough : length rows ≤ length classes

-- items made from a side's rows and their classes
pub side_made : (rows slice : List Row) (classes lent : List ℕ) (items : List Item) → items ≡ items_with slice lent
    → slice ≡ rows → lent ≡ classes → length classes ≡ length rows → IsSide rows classes items
side_made rows slice classes lent items e f g count = record {
  are = e ∙ ap (λ r. items_with r lent) f ∙ ap (items_with rows) g;
  enough = omega (arith, count);
}

-- a side's items and its rows have the same number
pub side_len : (rows : List Row) (classes : List ℕ) (items : List Item) → IsSide rows classes items
    → length items ≡ length rows
side_len rows classes items s = ap length s.are ∙ length-items_with rows classes s.enough
