-- The rows of a group, and the order of an aggregate's rows.
use Rattle.std.specs.Prelude.{◌≡◌, List, filter, Option}
use Rattle.std.specs.declared.cmp.Ordering.{Ordering}
use Rattle.std.specs.declared.cmp.Ordering.TheVariants.{Less}
use Rattle.std.specs.Ordering.{int_cmp, ordering_then}
use Rattle.row_core.specs.ValueOrder.{maybe_cmp, same_maybe}
use Rattle.row_core.specs.declared.row.Row.{Row}
use Rattle.row_core.specs.declared.value.Value.{Value}
use Rattle.agg_core.specs.declared.rows.AggRow.{AggRow}

-- The rows of a group; `group_of` maps a row to its group. Groups are equal if both have the same value, or both have
-- none.
abbrev pub rows_of_group : (Row → Option Value) → Option Value → List Row → List Row
rows_of_group group_of group rows = filter (λ row. same_maybe (group_of row) group) rows

-- The order by group, then by start.
abbrev pub agg_row_cmp : AggRow → AggRow → Ordering
agg_row_cmp a b = ordering_then (maybe_cmp a.group b.group) (int_cmp a.period.from b.period.from)

-- `a` comes before `b` in this order.
abbrev pub AggRowBefore : AggRow → AggRow → Type 0
AggRowBefore a b = agg_row_cmp a b ≡ Less
