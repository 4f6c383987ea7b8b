-- The aggregate of rows, and how it is written to lists.
use Rattle.std.specs.Prelude.{◌≡◌, ◌^◌, ℕ, ◌<◌, ◌≤◌, ℤ, pos, ◌+ℤ◌, ◌*ℤ◌, List, IsPermutation, slice_index_or}
use Rattle.dip_core.specs.declared.item.Item.{Item}
use Rattle.round_core.specs.declared.measure.Measure.{Measure}
use Rattle.round_core.specs.declared.measure.Measure.TheVariants.{Count, Sum, Min, Max}
use Rattle.round_core.specs.declared.plateau.Plateau.{Plateau}
use Rattle.round_core.specs.Plateaus.{ArePlateaus}
use Rattle.ruzgalt_c.specs.Rows.{AreRows, Columns}

-- The number of a function.
abbrev pub IsFunction : ℕ → Measure → Type 0
IsFunction function Count = function ≡ 0
IsFunction function Sum = function ≡ 1
IsFunction function Min = function ≡ 2
IsFunction function Max = function ≡ 3

-- No function has this number.
abbrev pub IsNoFunction : ℕ → Type 0
IsNoFunction function = 4 ≤ function

-- The constant intervals of rows, by group and start: each maximal period in which the aggregate of a group's rows has
-- one value.
pub record IsAggOfRows (rows : Columns) (function : ℕ) (plateaus : List Plateau) : Type 0 where
  pub measure : Measure
  pub asked : IsFunction function measure
  pub items : List Item
  pub are : AreRows rows items
  -- The items in some order, which doesn't affect their aggregates.
  pub ordered : List Item
  pub moved : IsPermutation items ordered
  pub all : ArePlateaus measure ordered plateaus

-- The lists begin with the groups, starts and ends of the first `n` intervals.
pub record ArePlateausWritten (plateaus : List Plateau) (n : ℕ) (group : List ℕ) (from to : List ℤ) : Type 0 where
  pub groups : (k e : ℕ) (d : Plateau) → k < n → slice_index_or group k e ≡ (slice_index_or plateaus k d).class
  pub starts : (k : ℕ) (e : ℤ) (d : Plateau) → k < n
      → slice_index_or from k e ≡ (slice_index_or plateaus k d).period.from
  pub ends : (k : ℕ) (e : ℤ) (d : Plateau) → k < n
      → slice_index_or to k e ≡ (slice_index_or plateaus k d).period.to

-- The lists begin with the low and the high words of the values of the first `n` intervals. A value is its high word
-- times 2^64, plus its low word.
abbrev pub AreValuesWritten : List Plateau → ℕ → List ℕ → List ℤ → Type 0
AreValuesWritten plateaus n low high =
    (k e : ℕ) (f : ℤ) (d : Plateau) → k < n
    → (slice_index_or plateaus k d).value ≡ (slice_index_or high k f *ℤ pos (2 ^ 64)) +ℤ pos (slice_index_or low k e)
