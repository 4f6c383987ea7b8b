use Rattle.std.proofs.Common.{◌≢◌, List, sym, subst}
use Rattle.std.specs.Prelude.{Contains}
use Rattle.std.proofs.lemmas.List.Sorted.{IsPermutation-refl, length_permutation}
use Rattle.dip_core.specs.declared.item.Item.{Item}
use Rattle.dip_core.specs.Item.{HasDistinctIds}
use Rattle.dip_core.proofs.DivisionLemmas.{HasDistinctIds-permutation}
use Rattle.grid_core.specs.Bundles.{ClassesRise}
use Rattle.anti_core.specs.declared.rows.AntiRow.{AntiRow}
use Rattle.anti_core.specs.Anti.{AntiRowBefore}
use Rattle.anti_core.specs.ItemAnti.{AreItemsRows}
use Rattle.anti_core.proofs.BundleLemmas.{united-rise}
use Rattle.anti_core.proofs.ItemLemmas.{IsItemsAnti-ordered, rows-permutation}
use Rattle.anti_core.proofs.OrderingLemmas.{all-sorted}
use Rattle.anti_core.proofs.UnitedLemmas.{rows-alike}
use Rattle.ruzgalt_c.specs.Anti.{HoldApart}
use Rattle.ruzgalt_c.proofs.AntiLemmas.{apart-united}
use Rattle.ruzgalt_c.proofs.anti.anti_items.Goals as goal

pub rows_of_classes-requires-clause-left_few : goal.rows_of_classes-requires-clause-left_few
rows_of_classes-requires-clause-left_few c =
    let len = length_permutation _ _ c.order_by_class.ensures.permutation in
    rw (c.deref.ensures.value, len) c.requires.few

pub rows_of_classes-requires-clause-left_rise : goal.rows_of_classes-requires-clause-left_rise
rows_of_classes-requires-clause-left_rise c =
    subst ClassesRise (sym c.deref.ensures.value) c.order_by_class.ensures.sorted

pub rows_of_classes-requires-clause-right_rise : goal.rows_of_classes-requires-clause-right_rise
rows_of_classes-requires-clause-right_rise c =
    subst ClassesRise (sym c.deref-2.ensures.value)
    (united-rise c.united_items-united.result.items c.united_items-united.ensures.all.ordered)

pub rows_of_classes-requires-clause-right_apart : goal.rows_of_classes-requires-clause-right_apart
rows_of_classes-requires-clause-right_apart c =
    subst HoldApart (sym c.deref-2.ensures.value)
    (apart-united c.args.right.items c.united_items-united.result.items c.united_items-united.ensures)

pub rows_of_classes-requires-clause-ids : goal.rows_of_classes-requires-clause-ids
rows_of_classes-requires-clause-ids c =
    subst HasDistinctIds (sym c.deref.ensures.value)
    (HasDistinctIds-permutation _ _ c.order_by_class.ensures.permutation c.requires.ids)

pub returns : goal.returns
returns c =
    let left = c.args.left.items in
    let right = c.args.right.items in
    let lefts = c.order_by_class.new.items.items in
    let united = c.united_items-united.result.items in
    let found = c.in_ok-rows.rows.items in
    let sorted = c.sort_unstable.new.self.items in
    let lists = subst (λ (l : List Item). AreItemsRows l united found) c.deref.ensures.value
    (subst (λ (l : List Item). AreItemsRows c.deref.result.now l found) c.deref-2.ensures.value
    c.in_ok-rows.ensures) in
    let moved = rows-permutation left lefts united united c.order_by_class.ensures.permutation
    (IsPermutation-refl united) (λ (a b : AntiRow). a ≢ b) found lists in
    let all = rows-alike (λ (a b : AntiRow). a ≢ b) left right united found c.united_items-united.ensures.alike moved in
    IsItemsAnti-ordered left right found sorted all
    (all-sorted found sorted all.ordered c.sort_unstable.ensures.permutation c.sort_unstable.ensures.sorted)
