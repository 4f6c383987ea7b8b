use Rattle.std.proofs.Common.{subst, sym}
use Rattle.join_core.specs.ItemJoin.{IsItemsJoin}
use Rattle.join_core.proofs.JoinedLemmas.{IsItemsJoin-sorted}
use Rattle.join_core.proofs.joins.join_items.Goals as goal

pub returns-clause-rows : goal.returns-clause-rows
returns-clause-rows g c =
    let left = c.args.left.now in
    let right = c.args.right.now in
    let found = c.in_ok-rows.field-0.rows.items in
    let sorted = c.sort_unstable.new.items.items in
    subst (IsItemsJoin left right) (sym c.from.ensures)
    (IsItemsJoin-sorted left right found sorted c.in_ok-rows.ensures.rows c.sort_unstable.ensures.permutation
    c.sort_unstable.ensures.sorted)
