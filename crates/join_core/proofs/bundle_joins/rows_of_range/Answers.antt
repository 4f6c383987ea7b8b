use Rattle.std.proofs.Common.{◌≤◌, List, length, sym, subst, arith}
use Rattle.dip_core.specs.declared.item.Item.{Item}
use Rattle.dip_core.specs.Item.{HasDistinctIds, item_limit}
use Rattle.grid_core.specs.Bundles.{ClassesRise}
use Rattle.grid_core.proofs.RangeItems.{in-distinct, in-few, in-rise}
use Rattle.join_core.proofs.bundle_joins.rows_of_range.Goals as goal

pub rows_of_bundles-requires-clause-left_few : goal.rows_of_bundles-requires-clause-left_few
rows_of_bundles-requires-clause-left_few g c = λ κs outlives.
    (let few = in-few c.args.range c.args.left.now in
    let most : length c.args.left.now ≤ item_limit = c.requires.left_few in
    subst (λ (xs : List Item). length xs ≤ item_limit) (sym c.items_in.ensures) (omega (arith, few, most)))

pub rows_of_bundles-requires-clause-right_few : goal.rows_of_bundles-requires-clause-right_few
rows_of_bundles-requires-clause-right_few g c = λ κs outlives.
    (let few = in-few c.args.range c.args.right.now in
    let most : length c.args.right.now ≤ item_limit = c.requires.right_few in
    subst (λ (xs : List Item). length xs ≤ item_limit) (sym c.items_in-2.ensures) (omega (arith, few, most)))

pub rows_of_bundles-requires-clause-left_rise : goal.rows_of_bundles-requires-clause-left_rise
rows_of_bundles-requires-clause-left_rise g c = λ κs outlives.
    (subst ClassesRise (sym c.items_in.ensures) (in-rise c.args.range c.args.left.now c.requires.left_rise))

pub rows_of_bundles-requires-clause-right_rise : goal.rows_of_bundles-requires-clause-right_rise
rows_of_bundles-requires-clause-right_rise g c = λ κs outlives.
    (subst ClassesRise (sym c.items_in-2.ensures) (in-rise c.args.range c.args.right.now c.requires.right_rise))

pub rows_of_bundles-requires-clause-left_ids : goal.rows_of_bundles-requires-clause-left_ids
rows_of_bundles-requires-clause-left_ids g c = λ κs outlives.
    (subst HasDistinctIds (sym c.items_in.ensures) (in-distinct c.args.range c.args.left.now c.requires.left_ids))

pub rows_of_bundles-requires-clause-right_ids : goal.rows_of_bundles-requires-clause-right_ids
rows_of_bundles-requires-clause-right_ids g c = λ κs outlives.
    (subst HasDistinctIds (sym c.items_in-2.ensures) (in-distinct c.args.range c.args.right.now c.requires.right_ids))
