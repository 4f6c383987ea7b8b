use Rattle.std.proofs.Common.{arith}
use Rattle.ruzgalt_c.specs.Rows.{classed}
use Rattle.ruzgalt_c.proofs.AntiLemmas.{index-few}
use Rattle.ruzgalt_c.proofs.RowLemmas.{distinct-from_rows}
use Rattle.ruzgalt_c.proofs.export.ruzgalt_anti.Goals as goal

pub anti_items-requires-clause-ids : goal.anti_items-requires-clause-ids
anti_items-requires-clause-ids c =
    distinct-from_rows (classed c.args.left_class.now c.args.left_from.now c.args.left_to.now) c.in-Ok.lefts.items
    c.in-Ok.ensures.rows

pub write_anti_rows-requires-clause-ids : goal.write_anti_rows-requires-clause-ids
write_anti_rows-requires-clause-ids c =
    rw c.deref.ensures.value
    (index-few (classed c.args.left_class.now c.args.left_from.now c.args.left_to.now) c.in-Ok.lefts.items
    c.in-Ok-items_of.rights.items c.in-Ok-anti_items.rows.items c.in-Ok.ensures.rows (omega arith)
    c.in-Ok-anti_items.ensures)
