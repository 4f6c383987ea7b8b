use Rattle.std.proofs.Common.{◌≡◌, filter, take}
use Rattle.list_core.specs.Chunks.{all_in}
use Rattle.work_core.specs.Ranges.{has}
use Rattle.std.specs.Ordering.{nat_cmp}
use Rattle.anti_core.proofs.ordering.rows_of_ids.Given as goal

-- the range's rows of the lists before the index
abbrev pub invariant-loop-list : goal.invariant-loop-list
invariant-loop-list l =
    l.rows.items ≡ filter (λ row. has nat_cmp l.ids row.id) (all_in (take l.list-index l.lists))
