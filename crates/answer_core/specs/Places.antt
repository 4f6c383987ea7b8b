-- The indices of rows by id.
use Rattle.std.specs.Prelude.{◌≡◌, ℕ, ◌-◌, ◌<◌, ◌≤◌, All, List, length, slice_index, slice_index_or}
use Rattle.row_core.specs.Rows.{RowsRise}
use Rattle.row_core.specs.declared.row.Row.{Row}

-- The most indices that are stored.
abbrev pub place_limit : ℕ
place_limit = 1_000_000

-- For each id from `first` on, within the length of `places`, the index of the row with that id, if there is one.
abbrev pub ArePlacesFrom : ℕ → List Row → List ℕ → Type 0
ArePlacesFrom first rows places = (i : ℕ) (d : Row) → i < length rows
    → (slice_index_or rows i d).id - first < length places
    → slice_index places ((slice_index_or rows i d).id - first) ≡ i

-- The rows' ids are ascending from `first` on, and `places` are the indices of the rows.
pub record ArePlacesOfRows (first : ℕ) (rows : List Row) (places : List ℕ) : Type 0 where
  pub rise : RowsRise rows
  pub low : All (λ row. first ≤ row.id) rows
  pub found : ArePlacesFrom first rows places
