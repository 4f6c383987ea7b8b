use Rattle.std.proofs.Common.{arith}
use Rattle.ruzgalt_c.specs.Rows.{classed}
use Rattle.ruzgalt_c.proofs.RowLemmas.{distinct-from_rows}
use Rattle.ruzgalt_c.proofs.JoinLemmas.{indices-few}
use Rattle.ruzgalt_c.proofs.export.ruzgalt_join.Goals as goal

pub join_items-requires-clause-left_ids : goal.join_items-requires-clause-left_ids
join_items-requires-clause-left_ids c =
    distinct-from_rows (classed c.args.left_class.now c.args.left_from.now c.args.left_to.now) c.in-Ok.lefts.items
    c.in-Ok.ensures.rows

pub join_items-requires-clause-right_ids : goal.join_items-requires-clause-right_ids
join_items-requires-clause-right_ids c =
    distinct-from_rows (classed c.args.right_class.now c.args.right_from.now c.args.right_to.now)
    c.in-Ok-items_of.rights.items c.in-Ok-items_of.ensures.rows

pub write_rows-requires-clause-ids : goal.write_rows-requires-clause-ids
write_rows-requires-clause-ids c =
    rw c.deref.ensures.value
    (indices-few (classed c.args.left_class.now c.args.left_from.now c.args.left_to.now)
    (classed c.args.right_class.now c.args.right_from.now c.args.right_to.now) c.in-Ok.lefts.items
    c.in-Ok-items_of.rights.items c.in-Ok-join_items.rows.items c.in-Ok.ensures.rows c.in-Ok-items_of.ensures.rows
    (omega arith) (omega arith) c.in-Ok-join_items.ensures)
