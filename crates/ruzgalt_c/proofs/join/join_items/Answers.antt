use Rattle.std.proofs.Common.{◌≢◌, List, sym, subst}
use Rattle.std.proofs.lemmas.List.Sorted.{length_permutation}
use Rattle.dip_core.specs.declared.item.Item.{Item}
use Rattle.dip_core.specs.Item.{HasDistinctIds}
use Rattle.dip_core.proofs.DivisionLemmas.{HasDistinctIds-permutation}
use Rattle.join_core.specs.declared.rows.JoinRow.{JoinRow}
use Rattle.join_core.specs.ItemJoin.{AreItemsRows}
use Rattle.join_core.proofs.ItemLemmas.{rows-permutation}
use Rattle.join_core.proofs.JoinedLemmas.{IsItemsJoin-sorted}
use Rattle.ruzgalt_c.proofs.join.join_items.Goals as goal

pub rows_of_bundles-requires-clause-left_few : goal.rows_of_bundles-requires-clause-left_few
rows_of_bundles-requires-clause-left_few c =
    let len = length_permutation _ _ c.order_by_class.ensures.permutation in
    rw (c.deref.ensures.value, len) c.requires.left_few

pub rows_of_bundles-requires-clause-right_few : goal.rows_of_bundles-requires-clause-right_few
rows_of_bundles-requires-clause-right_few c =
    let len = length_permutation _ _ c.order_by_class-2.ensures.permutation in
    rw (c.deref-2.ensures.value, len) c.requires.right_few

pub rows_of_bundles-requires-clause-left_ids : goal.rows_of_bundles-requires-clause-left_ids
rows_of_bundles-requires-clause-left_ids c =
    subst HasDistinctIds (sym c.deref.ensures.value)
    (HasDistinctIds-permutation _ _ c.order_by_class.ensures.permutation c.requires.left_ids)

pub rows_of_bundles-requires-clause-right_ids : goal.rows_of_bundles-requires-clause-right_ids
rows_of_bundles-requires-clause-right_ids c =
    subst HasDistinctIds (sym c.deref-2.ensures.value)
    (HasDistinctIds-permutation _ _ c.order_by_class-2.ensures.permutation c.requires.right_ids)

pub returns : goal.returns
returns c =
    let left = c.args.left.items in
    let right = c.args.right.items in
    let lefts = c.order_by_class.new.items.items in
    let rights = c.order_by_class-2.new.items.items in
    let found = c.in_ok-rows.rows.items in
    let sorted = c.sort_unstable.new.self.items in
    let lists = subst (λ (l : List Item). AreItemsRows l rights found) c.deref.ensures.value
    (subst (λ (l : List Item). AreItemsRows c.deref.result.now l found) c.deref-2.ensures.value
    c.in_ok-rows.ensures) in
    IsItemsJoin-sorted left right found sorted
    (rows-permutation left right lefts rights c.order_by_class.ensures.permutation c.order_by_class-2.ensures.permutation
    (λ (a b : JoinRow). a ≢ b) found lists)
    c.sort_unstable.ensures.permutation c.sort_unstable.ensures.sorted
