use Rattle.std.proofs.Common.{◌≡◌, ◌++◌, filter, take}
use Rattle.work_core.specs.Ranges.{has}
use Rattle.std.specs.Ordering.{nat_cmp}
use Rattle.anti_core.proofs.ordering.add_rows_of_ids.Given as goal

-- the rows before the index that are within the range were added
abbrev pub invariant-loop-row : goal.invariant-loop-row
invariant-loop-row l =
    l.rows.items ≡ l.fn.rows.items ++ filter (λ row. has nat_cmp l.ids row.id) (take l.row-index l.list)
