-- The join of the rows of two tables.
use Rattle.std.specs.Prelude.{◌≡◌, ℕ, ◌+◌, ◌*◌, ◌≤◌, List, Contains}
use Rattle.std.specs.declared.cmp.Ordering.{Ordering}
use Rattle.std.specs.declared.cmp.Ordering.TheVariants.{Less}
use Rattle.std.specs.Ordering.{nat_cmp, int_cmp, ordering_then}
use Rattle.row_core.specs.declared.row.Row.{Row}
use Rattle.list_core.specs.Wanted.{IsListOf}
use Rattle.merge_core.specs.Hits.{IsShared}
use Rattle.join_core.specs.declared.rows.JoinRow.{JoinRow}

-- The order by start, end, left id and right id.
abbrev pub join_cmp : JoinRow → JoinRow → Ordering
join_cmp a b =
    ordering_then (ordering_then (int_cmp a.period.from b.period.from) (int_cmp a.period.to b.period.to))
    (ordering_then (nat_cmp a.left b.left) (nat_cmp a.right b.right))

-- `a` comes before `b` in this order.
abbrev pub RowBefore : JoinRow → JoinRow → Type 0
RowBefore a b = join_cmp a b ≡ Less

-- The ids of a left and a right row that match and share an instant, with all instants that they share.
pub record IsJoinRow (Matches : Row → Row → Type 0) (left right : List Row) (row : JoinRow) : Type 0 where
  pub x : Row
  pub y : Row
  pub x_in : Contains left x
  pub y_in : Contains right y
  pub left_id : row.left ≡ x.id
  pub right_id : row.right ≡ y.id
  pub matches : Matches x y
  pub shared : IsShared x.period y.period row.period

-- All such rows, each once, by start, end, left id and right id.
abbrev pub IsJoin : (Row → Row → Type 0) → List Row → List Row → List JoinRow → Type 0
IsJoin Matches left right rows = IsListOf RowBefore (IsJoinRow Matches left right) rows

-- `turns` is at least k * m, and at most m * a + k * b. The latter is the number of items read if each of k parts with
-- a rows in total is read against each of m parts with b rows.
pub record IsWithin (k m a b turns : ℕ) : Type 0 where
  pub at_least : k * m ≤ turns
  pub at_most : turns ≤ m * a + k * b
