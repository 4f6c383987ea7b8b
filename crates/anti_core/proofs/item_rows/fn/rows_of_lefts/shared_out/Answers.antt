use Rattle.anti_core.proofs.ItemLemmas.{piece-distinct}
use Rattle.anti_core.proofs.item_rows.fn.rows_of_lefts.shared_out.Goals as goal

pub rows_of_piece-requires-clause-ids : goal.rows_of_piece-requires-clause-ids
rows_of_piece-requires-clause-ids g c = λ κs outlives.
    rw c.items_within.ensures (piece-distinct c.args.places c.captures.left.now c.requires.5)
