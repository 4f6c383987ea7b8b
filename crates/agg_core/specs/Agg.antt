-- The aggregate of a table's rows, group by group.
use Rattle.std.specs.Prelude.{◌≡◌, ◌<◌, ◌≤ℤ◌, ℕ, ℤ, pos, List, [], ◌∷◌, ◌++◌, length, map, filter, Contains, Bool, Option, Some, None, is_none, option_and_then}
use Rattle.list_core.specs.Wanted.{IsListOf}
use Rattle.period_core.specs.Period.{holds_at}
use Rattle.row_core.specs.Refusals.{first_of}
use Rattle.row_core.specs.Schema.{kind_in}
use Rattle.row_core.specs.declared.row.Row.{Row}
use Rattle.row_core.specs.declared.schema.Column.{Column}
use Rattle.row_core.specs.declared.value.Kind.TheVariants as kind
use Rattle.row_core.specs.declared.value.Value.{Value}
use Rattle.row_core.specs.declared.value.Value.TheVariants.{Int, Text}
use Rattle.merge_core.specs.Gaps.{IsMaximal}
use Rattle.merge_core.specs.Tallies.{total}
use Rattle.match_core.specs.Columns.{kinds_differ, value_under}
use Rattle.match_core.specs.declared.columns.QueryRefused.{QueryRefused}
use Rattle.match_core.specs.declared.columns.QueryRefused.TheVariants.{NoColumn, WrongKind}
use Rattle.round_core.specs.declared.measure.Measure.{Measure}
use Rattle.round_core.specs.declared.measure.Measure.TheVariants as measure
use Rattle.agg_core.specs.Groups.{AggRowBefore, rows_of_group}
use Rattle.row_core.specs.declared.func.Func.{Func}
use Rattle.row_core.specs.declared.func.Func.TheVariants.{Count, Sum, Min, Max}
use Rattle.agg_core.specs.declared.rows.AggRow.{AggRow}

-- The measure of a function.
abbrev pub measure_of : Func → Measure
measure_of Count = measure.Count
measure_of (Sum name) = measure.Sum
measure_of (Min name) = measure.Min
measure_of (Max name) = measure.Max

-- The column with the function's numbers; a count needs none.
abbrev pub number_column : Func → Option (List ℕ)
number_column Count = None
number_column (Sum name) = Some name
number_column (Min name) = Some name
number_column (Max name) = Some name

-- The tests of the column with the numbers, in this order.
abbrev pub number_tests : List Column → Option (List ℕ) → List (Bool × QueryRefused)
number_tests columns None = []
number_tests columns (Some name) =
    (is_none (kind_in columns name), NoColumn)
    ∷ (kinds_differ (kind_in columns name) (Some kind.Int), WrongKind)
    ∷ []

-- The tests of the column that rows are grouped by.
abbrev pub group_tests : List Column → Option (List ℕ) → List (Bool × QueryRefused)
group_tests columns None = []
group_tests columns (Some name) = (is_none (kind_in columns name), NoColumn) ∷ []

-- Why an aggregate is refused: the first test that applies.
abbrev pub agg_refusal : List Column → Func → Option (List ℕ) → Option QueryRefused
agg_refusal columns func group = first_of (number_tests columns (number_column func) ++ group_tests columns group)

-- The row's value in the column with the name; `None` without a name.
abbrev pub value_in : List Column → Option (List ℕ) → Row → Option Value
value_in columns name row = option_and_then (λ n. value_under columns n row) name

-- The number in a value; 0 without a number.
abbrev pub amount_of_value : Option Value → ℤ
amount_of_value None = pos 0
amount_of_value (Some (Int number)) = number
amount_of_value (Some (Text text)) = pos 0

-- A row's amount: its number in the function's column; 0 for a count.
abbrev pub amount_in : List Column → Func → Row → ℤ
amount_in columns func row = amount_of_value (value_in columns (number_column func) row)

-- The rows that hold `t`.
abbrev pub rows_on : ℤ → List Row → List Row
rows_on t rows = filter (λ (row : Row). holds_at t row.period) rows

-- `value` is the measure of the numbers: their count, sum, minimum or maximum.
abbrev pub ComeTo : Measure → List ℤ → ℤ → Type 0
ComeTo measure.Count numbers value = value ≡ pos (length numbers)
ComeTo measure.Sum numbers value = value ≡ total numbers
ComeTo measure.Min numbers value = Contains numbers value × ((n : ℤ) → Contains numbers n → value ≤ℤ n)
ComeTo measure.Max numbers value = Contains numbers value × ((n : ℤ) → Contains numbers n → n ≤ℤ value)

-- Some of the rows hold `t`, and `value` is the measure of their amounts.
pub record HoldAndComeTo (measure : Measure) (amount_of : Row → ℤ) (rows : List Row) (value t : ℤ) : Type 0 where
  pub some : 0 < length (rows_on t rows)
  pub is : ComeTo measure (map amount_of (rows_on t rows)) value

-- A group, and a maximal period in which some of its rows hold and their measured value is constant, with that value.
pub record IsAggRow (measure : Measure) (amount_of : Row → ℤ) (group_of : Row → Option Value) (rows : List Row)
    (row : AggRow) : Type 0 where
  pub maximal : IsMaximal (HoldAndComeTo measure amount_of (rows_of_group group_of row.group rows) row.value) row.period

-- All such rows, each once, by group and start.
abbrev pub AreAggRows : Measure → (Row → ℤ) → (Row → Option Value) → List Row → List AggRow → Type 0
AreAggRows measure amount_of group_of rows answer =
    IsListOf AggRowBefore (IsAggRow measure amount_of group_of rows) answer

-- The aggregate of the rows, grouped by their values in the named column, or as one group without a name.
abbrev pub IsAgg : List Column → Func → Option (List ℕ) → List Row → List AggRow → Type 0
IsAgg columns func group rows answer =
    AreAggRows (measure_of func) (amount_in columns func) (value_in columns group) rows answer

-- Two aggregates of the same rows are equal.
abbrev pub AggHasOneList : Type 0
AggHasOneList =
    (columns : List Column) (func : Func) (group : Option (List ℕ)) (rows : List Row) (one other : List AggRow)
    → IsAgg columns func group rows one → IsAgg columns func group rows other → one ≡ other

-- Any rows have an aggregate.
abbrev pub AggHasSomeList : Type 0
AggHasSomeList =
    (columns : List Column) (func : Func) (group : Option (List ℕ)) (rows : List Row)
    → (answer : List AggRow) × IsAgg columns func group rows answer
