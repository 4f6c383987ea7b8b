-- How rows are read from their fields.
use Rattle.std.specs.Prelude.{ℕ, List, ◌∷◌, length, ◌==◌, if◌then◌else◌, Result, Err}
use Rattle.std.specs.List.{zip}
use Rattle.std.specs.Option.{ok_or}
use Rattle.period_core.specs.Point.{point_of}
use Rattle.period_core.specs.Period.{between}
use Rattle.period_core.specs.declared.period.Period.{Period}
use Rattle.row_core.specs.Refusals.{and_then, map_err, map_ok, read_each}
use Rattle.row_core.specs.Value.{value_of}
use Rattle.row_core.specs.declared.draft.Draft.{Draft}
use Rattle.row_core.specs.declared.schema.Column.{Column}
use Rattle.row_core.specs.declared.reading.RowRefused.{RowRefused}
use Rattle.row_core.specs.declared.reading.RowRefused.TheVariants as row
use Rattle.row_core.specs.declared.value.Kind.{Kind}
use Rattle.row_core.specs.declared.value.Value.{Value}
use Rattle.row_core.specs.declared.value.ValueRefused.{ValueRefused}
use Rattle.row_core.specs.declared.value.ValueRefused.TheVariants as value

-- a value's refusal, turned into a row's
abbrev pub refusal_of_value : ValueRefused → RowRefused
refusal_of_value value.BadNumber = row.BadNumber
refusal_of_value value.TooLong = row.TooLong
refusal_of_value value.BadUtf8 = row.BadUtf8

-- the period from one text's point on and before another's, or the first refusal: the start's, the end's, and then
-- `bad_period`
abbrev pub period_by : {E : Type 0} → E → E → List ℕ → List ℕ → Result Period E
period_by bad_point bad_period from to =
    and_then (ok_or (point_of from) bad_point) (λ start.
    and_then (ok_or (point_of to) bad_point) (λ end. ok_or (between start end) bad_period))

-- the period of a row's two points
abbrev pub period_of : List ℕ → List ℕ → Result Period RowRefused
period_of from to = period_by row.BadPoint row.BadPeriod from to

-- the value of a field in a column of the kind
abbrev pub field_of : Kind → List ℕ → Result Value RowRefused
field_of kind field = map_err refusal_of_value (value_of kind field)

-- each field's value in its column, or the first refusal from left to right
abbrev pub values_of : List Column → List (List ℕ) → Result (List Value) RowRefused
values_of columns fields = read_each (λ pair. field_of pair.0.kind pair.1) (zip columns fields)

-- the row of two points and a field for each column, or the first refusal
abbrev pub row_of : List Column → List (List ℕ) → Result Draft RowRefused
row_of columns (from ∷ to ∷ fields) =
    if length fields == length columns then
    and_then (period_of from to) (λ period.
    map_ok (λ values. record { period = period; values = values }) (values_of columns fields))
    else Err row.WrongWidth
row_of columns fields = Err row.WrongWidth
