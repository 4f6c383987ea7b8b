use Rattle.std.proofs.Common.{◌<◌, length, refl, arith}
use Rattle.dip_core.specs.Division.{all_of}
use Rattle.anti_core.proofs.ItemLemmas.{AreItemsRows-none, AreItemsRows-more}
use Rattle.anti_core.proofs.PartLemmas.{IdsTell-part}
use Rattle.std.proofs.Common.{◌≤◌, List, subst}
use Rattle.std.proofs.lemmas.List.{take_all}
use Rattle.dip_core.specs.declared.item.Item.{Item}
use Rattle.anti_core.specs.ItemAnti.{AreItemsRows}
use Rattle.anti_core.proofs.item_rows.rows_of_parts.Goals as goal

pub loop-number-init : goal.loop-number-init
loop-number-init g c = (
  AreItemsRows-none (all_of c.args.pairs.now.right.now) c.new-rows.result.items c.new-rows.ensures.items,
  λ x e. cc,
)

pub add_rows_of_part-requires-clause-tell : goal.add_rows_of_part-requires-clause-tell
add_rows_of_part-requires-clause-tell g c = λ κs outlives.
    IdsTell-part c.args.pairs.now.left.now c.loop-number.number c.requires.ids

pub loop-number-preserved : goal.loop-number-preserved
loop-number-preserved g c =
    let ps = c.args.pairs.now.left.now in
    let inside : c.loop-number.number < length ps = omega arith in
    let added = c.in_ok-add_rows_of_part.ensures.rows in (
      AreItemsRows-more ps c.loop-number.number (all_of c.args.pairs.now.right.now) c.loop-number.rows.items
          c.add_rows_of_part.new.rows.items added.0 added.0 inside c.requires.ids c.loop-number.invariant.0 added.1 refl
          added.2,
      c.in_ok-add_rows_of_part.ensures.supply,
    )

pub add_rows_of_part-requires-clause-part : goal.add_rows_of_part-requires-clause-part
add_rows_of_part-requires-clause-part g c = λ κs outlives. omega arith

pub add_rows_of_part-requires-clause-supply : goal.add_rows_of_part-requires-clause-supply
add_rows_of_part-requires-clause-supply g c = λ κs outlives. c.loop-number.invariant.1

pub returns : goal.returns
returns g c =
    let ps = c.args.pairs.now.left.now in
    let all : length ps ≤ c.loop-number.number = omega arith in
    subst
    (λ (l : List (List Item)). AreItemsRows (all_of l) (all_of c.args.pairs.now.right.now) c.loop-number.rows.items)
    (take_all c.loop-number.number ps all) c.loop-number.invariant.0
