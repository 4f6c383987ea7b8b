-- The aggregates of slices of time, compared with the aggregate of all time.
use Rattle.std.specs.Prelude.{◌≡◌, ◌↔◌, ℕ, ℤ, List, Contains, Option, option_map}
use Rattle.std.specs.List.{filter_map}
use Rattle.period_core.specs.Period.{Holds, meet}
use Rattle.period_core.specs.declared.period.Period.{Period}
use Rattle.row_core.specs.declared.row.Row.{Row}
use Rattle.row_core.specs.declared.schema.Column.{Column}
use Rattle.row_core.specs.declared.value.Value.{Value}
use Rattle.list_core.specs.Wanted.{IsListOf}
use Rattle.merge_core.specs.Gaps.{IsMaximal}
use Rattle.agg_core.specs.Agg.{HoldAndComeTo, IsAgg, amount_in, measure_of, value_in}
use Rattle.agg_core.specs.Groups.{AggRowBefore, rows_of_group}
use Rattle.row_core.specs.declared.func.Func.{Func}
use Rattle.agg_core.specs.declared.rows.AggRow.{AggRow}

-- The row with another period.
abbrev pub row_in : Row → Period → Row
row_in row period = record { id = row.id; period = period; values = row.values }

-- The row clipped to a slice of time, if it overlaps the slice.
abbrev pub row_within : Period → Row → Option Row
row_within slice row = option_map (row_in row) (meet row.period slice)

-- The rows that overlap a slice, clipped to it.
abbrev pub rows_within : Period → List Row → List Row
rows_within slice rows = filter_map (row_within slice) rows

-- An aggregate's row with another period.
abbrev pub agg_row_in : AggRow → Period → AggRow
agg_row_in row period = record { group = row.group; period = period; value = row.value }

-- An aggregate's row clipped to a slice, if it overlaps the slice.
abbrev pub agg_row_within : Period → AggRow → Option AggRow
agg_row_within slice row = option_map (agg_row_in row) (meet row.period slice)

-- The rows of an aggregate that overlap a slice, clipped to it.
abbrev pub agg_rows_within : Period → List AggRow → List AggRow
agg_rows_within slice answer = filter_map (agg_row_within slice) answer

-- At each instant of a slice, a group's clipped rows have the same value as all its rows, and at other instants they
-- have none.
abbrev pub SliceComesToTheSame : Type 0
SliceComesToTheSame =
    (columns : List Column) (func : Func) (group : Option (List ℕ)) (rows : List Row) (slice : Period)
    (of_group : Option Value) (value t : ℤ)
    → HoldAndComeTo (measure_of func) (amount_in columns func)
    (rows_of_group (value_in columns group) of_group (rows_within slice rows)) value t
    ↔ (Holds slice t × HoldAndComeTo (measure_of func) (amount_in columns func)
    (rows_of_group (value_in columns group) of_group rows) value t)

-- The aggregate of the rows clipped to a slice is the whole aggregate, clipped to the slice.
abbrev pub SliceAggIsOfWhole : Type 0
SliceAggIsOfWhole =
    (columns : List Column) (func : Func) (group : Option (List ℕ)) (rows : List Row) (slice : Period)
    (whole answer : List AggRow)
    → IsAgg columns func group rows whole
    → IsAgg columns func group (rows_within slice rows) answer
    → answer ≡ agg_rows_within slice whole

-- Each instant at which a row holds is in one of the slices.
abbrev pub AreCoveredBy : List Period → List Row → Type 0
AreCoveredBy slices rows =
    (row : Row) (t : ℤ) → Contains rows row → Holds row.period t
    → (slice : Period) × Contains slices slice × Holds slice t

-- Some slice's answer has a row of this group and value that holds `t`.
pub record IsAnswered (slices : List Period) (answer_of : Period → List AggRow) (of_group : Option Value)
    (value t : ℤ) : Type 0 where
  pub slice : Period
  pub slice_in : Contains slices slice
  pub row : AggRow
  pub row_in : Contains (answer_of slice) row
  pub group_is : row.group ≡ of_group
  pub value_is : row.value ≡ value
  pub holds : Holds row.period t

-- The coalesced answers of slices: a group, a value, and a maximal period in which some slice's answer has a row of
-- both.
pub record IsClosedUp (slices : List Period) (answer_of : Period → List AggRow) (row : AggRow) : Type 0 where
  pub maximal : IsMaximal (IsAnswered slices answer_of row.group row.value) row.period

-- The whole aggregate is, in order, the coalesced answers of slices that cover the rows.
abbrev pub WholeAggIsOfSlices : Type 0
WholeAggIsOfSlices =
    (columns : List Column) (func : Func) (group : Option (List ℕ)) (rows : List Row) (slices : List Period)
    (answer_of : Period → List AggRow) (whole : List AggRow)
    → AreCoveredBy slices rows
    → ((slice : Period) → Contains slices slice
    → IsAgg columns func group (rows_within slice rows) (answer_of slice))
    → IsAgg columns func group rows whole ↔ IsListOf AggRowBefore (IsClosedUp slices answer_of) whole
