-- Ranges of the values that rows are grouped by, as ranges of their keys.
use Rattle.std.specs.Prelude.{List, Bool, filter, Option, Some, option_map}
use Rattle.work_core.specs.Ranges.{has, range}
use Rattle.work_core.specs.declared.range.Range.{Range}
use Rattle.row_core.specs.ValueOrder.{maybe_cmp}
use Rattle.row_core.specs.declared.row.Row.{Row}
use Rattle.row_core.specs.declared.value.Value.{Value}

-- The group of a key. Each key has a value.
abbrev pub group_of_key : {K : Type 0} → (K → Value) → K → Option Value
group_of_key value_of key = Some (value_of key)

-- The groups of a range of keys.
abbrev pub groups_in : {K : Type 0} → (K → Value) → Range K → Range (Option Value)
groups_in value_of keys =
    range (option_map (group_of_key value_of) keys.from) (option_map (group_of_key value_of) keys.before)

-- The group is within the range.
abbrev pub in_range : {K : Type 0} → (K → Value) → Range K → Option Value → Bool
in_range value_of keys group = has maybe_cmp (groups_in value_of keys) group

-- The rows whose groups are within a range, in order.
abbrev pub rows_in_range : {K : Type 0} → (K → Value) → (Row → Option Value) → Range K → List Row → List Row
rows_in_range value_of group_of keys rows = filter (λ row. in_range value_of keys (group_of row)) rows
