-- The rows of an anti-join by the ids of their left rows.
use Rattle.std.specs.Prelude.{◌≡◌, ℕ, true, List, Contains}
use Rattle.std.specs.Ordering.{nat_cmp}
use Rattle.work_core.specs.Ranges.{has}
use Rattle.work_core.specs.declared.range.Range.{Range}
use Rattle.anti_core.specs.declared.rows.AntiRow.{AntiRow}

-- One of the rows, with an id within the range.
pub record IsRowOf (rows : List AntiRow) (ids : Range ℕ) (row : AntiRow) : Type 0 where
  pub there : Contains rows row
  pub of_range : has nat_cmp ids row.id ≡ true
