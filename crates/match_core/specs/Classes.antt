-- Classes of the rows of two tables: rows that are equal in all named columns have the same class.
use Rattle.std.specs.Prelude.{◌≡◌, ◌↔◌, ℕ, ◌+◌, ◌<◌, List, ◌++◌, length, map, All, Option, slice_get, slice_index}
use Rattle.row_core.specs.declared.row.Row.{Row}
use Rattle.row_core.specs.declared.schema.Column.{Column}
use Rattle.row_core.specs.declared.value.Value.{Value}
use Rattle.row_core.specs.Name.{NamePair}
use Rattle.match_core.specs.Columns.{value_under}

-- The left rows' values in one column, followed by the right rows' values in the other.
abbrev pub values_under : List Column → List Column → List Row → List Row → NamePair → List (Option Value)
values_under left right lefts rights names =
    map (value_under left names.0) lefts ++ map (value_under right names.1) rights

-- Two rows, given by their indices in the list of left rows followed by right rows, are equal in each named pair of
-- columns.
abbrev pub AreSameOn : List Column → List Column → List Row → List Row → List NamePair → ℕ → ℕ → Type 0
AreSameOn left right lefts rights on i j =
    All (λ names. slice_get (values_under left right lefts rights names) i
    ≡ slice_get (values_under left right lefts rights names) j) on

-- A class for each left row, followed by a class for each right row. Two rows, of the same side or not, have the same
-- class exactly if they are equal in each named pair of columns.
pub record AreClasses
    (left right : List Column) (lefts rights : List Row) (on : List NamePair) (classes : List ℕ) : Type 0 where
  pub count : length classes ≡ length lefts + length rights
  pub tell : (i j : ℕ) → i < length classes → j < length classes
      → (slice_index classes i ≡ slice_index classes j) ↔ AreSameOn left right lefts rights on i j
