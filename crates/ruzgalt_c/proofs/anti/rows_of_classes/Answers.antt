use Rattle.std.proofs.Common.{◌+◌, ◌≤◌, List, length, ap, arith, subst}
use Rattle.std.proofs.lemmas.List.{length-append}
use Rattle.dip_core.specs.declared.item.Item.{Item}
use Rattle.grid_core.proofs.BundleLemmas.{from-rise, low-distinct, none_first}
use Rattle.anti_core.specs.ItemAnti.{AreItemsRows}
use Rattle.anti_core.proofs.BundleLemmas.{bundling_start, bundling_from, bundling_more, bundling_end, fewer_behind}
use Rattle.ruzgalt_c.specs.Anti.{HoldApart}
use Rattle.ruzgalt_c.proofs.AntiLemmas.{chain-own, later-apart}
use Rattle.ruzgalt_c.proofs.anti.rows_of_classes.Goals as goal

pub classes-init : goal.classes-init
classes-init c = (
  bundling_start c.args.left.now c.args.right.now c.new-rows.result.items c.new-rows.ensures.items
      c.requires.left_rise c.requires.right_rise c.requires.ids,
  c.requires.right_apart,
)

pub returns : goal.returns
returns c =
    bundling_end c.args.left.now c.args.right.now c.classes.lefts.now c.classes.rights.now c.classes.rows.items
    (none_first c.classes.lefts.now c.in_default.ensures.value) c.classes.invariant.0

pub parted_behind-requires-in-Some : goal.parted_behind-requires-in-Some
parted_behind-requires-in-Some c =
    from-rise c.in-Some.first.now.class c.classes.rights.now c.items_from-matching.result.now
    c.items_from-matching.ensures c.classes.invariant.0.right_rise

pub classes-smaller : goal.classes-smaller
classes-smaller c =
    fewer_behind c.in-Some.first.now.class c.in-Some.first.now c.classes.lefts.now c.parted_behind.result.0.now
    c.parted_behind.result.1.now c.in-Some.ensures.value (omega arith) c.parted_behind.ensures

pub add_rows_of_class-requires-clause-few : goal.add_rows_of_class-requires-clause-few
add_rows_of_class-requires-clause-few c =
    let whole = ap length c.parted_behind.ensures.whole in
    let both = length-append c.parted_behind.result.0.now c.parted_behind.result.1.now in
    let few = c.classes.invariant.0.left_few in
    omega (arith, whole, both, few)

pub add_rows_of_class-requires-clause-ids : goal.add_rows_of_class-requires-clause-ids
add_rows_of_class-requires-clause-ids c =
    low-distinct (c.in-Some.first.now.class + 1) c.classes.lefts.now c.parted_behind.result.0.now
    c.parted_behind.result.1.now c.parted_behind.ensures c.classes.invariant.0.ids

pub classes-preserved : goal.classes-preserved
classes-preserved c =
    let first = c.in-Some.first.now in
    let matching = c.items_from-matching.result.now in
    let own_lefts = c.parted_behind.result.0.now in
    let own_rights = c.parted_behind-in-Some.result.0.now in
    let later_rights = c.parted_behind-in-Some.result.1.now in
    let from = c.items_from-matching.ensures in
    let added = c.in_ok-add_rows_of_class.ensures in
    let rows : AreItemsRows own_lefts own_rights added.added =
    subst (λ (l : List Item). AreItemsRows own_lefts l added.added) c.in-Some-new.ensures.items added.rows in (
      bundling_more c.args.left.now c.args.right.now c.classes.lefts.now matching own_lefts
          c.parted_behind.result.1.now own_rights later_rights (first.class + 1) c.classes.rows.items added.added
          c.add_rows_of_class.new.rows.items c.parted_behind.ensures c.parted_behind-in-Some.ensures rows added.split
          (bundling_from c.args.left.now c.args.right.now c.classes.lefts.now c.classes.rights.now matching first
          c.classes.rows.items c.in-Some.ensures.value from c.classes.invariant.0),
      later-apart own_rights later_rights
          (subst HoldApart c.parted_behind-in-Some.ensures.whole
          (later-apart from.low matching (subst HoldApart from.whole c.classes.invariant.1))),
    )

pub unreachable-requires : goal.unreachable-requires
unreachable-requires c =
    let chain = chain-own c.in-Some.first.now.class c.classes.rights.now c.items_from-matching.result.now
    c.parted_behind-in-Some.result.0.now c.parted_behind-in-Some.result.1.now c.classes.invariant.1
    c.items_from-matching.ensures c.parted_behind-in-Some.ensures in
    let some = c.in_default-new.ensures.chained.1 chain in
    cc
