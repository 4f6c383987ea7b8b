-- A caller's rows, by columns, and the items that they become.
use Rattle.std.specs.Prelude.{◌≡◌, ℕ, ◌<◌, ℤ, pos, ◌<ℤ◌, List, [], length, slice_index_or}
use Rattle.period_core.specs.Point.{IsPointNumber}
use Rattle.dip_core.specs.declared.item.Item.{Item}

-- Rows by columns. A missing class or amount is 0.
pub record Columns : Type 0 where
  pub class : List ℕ
  pub from : List ℤ
  pub to : List ℤ
  pub amount : List ℤ

-- Rows without classes and amounts.
abbrev pub periods : List ℤ → List ℤ → Columns
periods from to = record { class = []; from = from; to = to; amount = [] }

-- Rows with classes.
abbrev pub classed : List ℕ → List ℤ → List ℤ → Columns
classed class from to = record { class = class; from = from; to = to; amount = [] }

-- Rows with groups and amounts.
abbrev pub measured : List ℕ → List ℤ → List ℤ → List ℤ → Columns
measured group from to amount = record { class = group; from = from; to = to; amount = amount }

-- These are the start and the end of a period: seconds of the years 0001 to 9999, the first before the second.
abbrev pub ArePeriodEnds : ℤ → ℤ → Type 0
ArePeriodEnds start end = IsPointNumber start × IsPointNumber end × (start <ℤ end)

-- The item is row `k`: it has the row's class, start, end and amount, and the id `k`.
pub record IsRow (rows : Columns) (k : ℕ) (x : Item) : Type 0 where
  pub class : x.class ≡ slice_index_or rows.class k 0
  pub start : x.period.from ≡ slice_index_or rows.from k (pos 0)
  pub end : x.period.to ≡ slice_index_or rows.to k (pos 0)
  pub amount : x.amount ≡ slice_index_or rows.amount k (pos 0)
  pub id : x.id ≡ k

-- The items are the rows, in the same order.
pub record AreRows (rows : Columns) (items : List Item) : Type 0 where
  pub len : length items ≡ length rows.from
  pub each : (k : ℕ) (d : Item) → k < length items → IsRow rows k (slice_index_or items k d)

-- The start and the end of some row aren't a period.
abbrev pub SomeRowHasNoPeriod : List ℤ → List ℤ → Type 0
SomeRowHasNoPeriod from to =
    (k : ℕ) × (k < length from) × (ArePeriodEnds (slice_index_or from k (pos 0)) (slice_index_or to k (pos 0)) → ⊥)
