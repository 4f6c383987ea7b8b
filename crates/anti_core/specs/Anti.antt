-- The anti-join of the rows of two tables.
use Rattle.std.specs.Prelude.{◌≡◌, ◌⊎◌, ℤ, pos, ◌-ℤ◌, List, Contains}
use Rattle.std.specs.declared.cmp.Ordering.{Ordering}
use Rattle.std.specs.declared.cmp.Ordering.TheVariants.{Less}
use Rattle.std.specs.Ordering.{nat_cmp, int_cmp, ordering_then}
use Rattle.period_core.specs.declared.period.Period.{Period}
use Rattle.period_core.specs.Period.{Holds}
use Rattle.row_core.specs.declared.row.Row.{Row}
use Rattle.list_core.specs.Wanted.{IsListOf}
use Rattle.merge_core.specs.Gaps.{IsMaximal}
use Rattle.anti_core.specs.declared.rows.AntiRow.{AntiRow}

-- The order by id, start and end.
abbrev pub anti_cmp : AntiRow → AntiRow → Ordering
anti_cmp a b =
    ordering_then (nat_cmp a.id b.id)
    (ordering_then (int_cmp a.period.from b.period.from) (int_cmp a.period.to b.period.to))

-- `a` comes before `b` in this order.
abbrev pub AntiRowBefore : AntiRow → AntiRow → Type 0
AntiRowBefore a b = anti_cmp a b ≡ Less

-- Some right row that matches `x` holds `t`: `t` is met.
pub record IsMet (Matches : Row → Row → Type 0) (right : List Row) (x : Row) (t : ℤ) : Type 0 where
  pub by : Row
  pub by_in : Contains right by
  pub matches : Matches x by
  pub holds : Holds by.period t

-- `x` holds `t`, and no right row that matches `x` does: `t` is unmet.
pub record IsUnmet (Matches : Row → Row → Type 0) (right : List Row) (x : Row) (t : ℤ) : Type 0 where
  pub held : Holds x.period t
  pub unmet : IsMet Matches right x t → ⊥

-- The id of a left row, and a maximal period of its unmet instants.
pub record IsAntiRow (Matches : Row → Row → Type 0) (left right : List Row) (row : AntiRow) : Type 0 where
  pub x : Row
  pub x_in : Contains left x
  pub id : row.id ≡ x.id
  pub maximal : IsMaximal (IsUnmet Matches right x) row.period

-- A period within that of `x` without met instants. It starts with `x` or right after a met instant, and ends with `x`
-- or right before a met instant.
pub record IsBordered (Matches : Row → Row → Type 0) (right : List Row) (x : Row) (p : Period) : Type 0 where
  pub inside : (t : ℤ) → Holds p t → Holds x.period t
  pub unmet : (t : ℤ) → Holds p t → IsMet Matches right x t → ⊥
  pub starts : (p.from ≡ x.period.from) ⊎ IsMet Matches right x (p.from -ℤ pos 1)
  pub ends : (p.to ≡ x.period.to) ⊎ IsMet Matches right x p.to

-- All such rows, each once, by id, start and end.
abbrev pub IsAnti : (Row → Row → Type 0) → List Row → List Row → List AntiRow → Type 0
IsAnti Matches left right rows = IsListOf AntiRowBefore (IsAntiRow Matches left right) rows
