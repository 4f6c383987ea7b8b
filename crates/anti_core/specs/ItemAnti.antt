-- The anti-join of two lists of items, which match if their classes are equal.
use Rattle.std.specs.Prelude.{◌≡◌, ◌≢◌, List, Contains}
use Rattle.dip_core.specs.declared.item.Item.{Item}
use Rattle.list_core.specs.Wanted.{IsListOf}
use Rattle.merge_core.specs.declared.gap.Gap.{Gap}
use Rattle.merge_core.specs.Gaps.{IsUncovered, IsMaximal}
use Rattle.anti_core.specs.declared.rows.AntiRow.{AntiRow}
use Rattle.anti_core.specs.Anti.{AntiRowBefore}

-- The row of a gap.
abbrev pub row_of_gap : Gap → AntiRow
row_of_gap gap = record { id = gap.left.id; period = gap.period }

-- The id of a left item, and a maximal uncovered period of it.
pub record IsItemsAntiRow (left right : List Item) (row : AntiRow) : Type 0 where
  pub x : Item
  pub x_in : Contains left x
  pub id : row.id ≡ x.id
  pub maximal : IsMaximal (IsUncovered right x) row.period

-- All such rows, each once, by id, start and end.
abbrev pub IsItemsAnti : List Item → List Item → List AntiRow → Type 0
IsItemsAnti left right rows = IsListOf AntiRowBefore (IsItemsAntiRow left right) rows

-- All such rows, each once, in any order.
abbrev pub AreItemsRows : List Item → List Item → List AntiRow → Type 0
AreItemsRows left right rows = IsListOf (λ a b. a ≢ b) (IsItemsAntiRow left right) rows
