use Rattle.std.proofs.Common.{◌≤◌, length, arith}
use Rattle.dip_core.specs.Item.{item_limit}
use Rattle.grid_core.proofs.RangeItems.{in-distinct, in-few, in-rise}
use Rattle.anti_core.proofs.bundle_gaps.fn.rows_by_class.shared_out.Goals as goal

pub rows_of_bundles-requires-clause-left_few : goal.rows_of_bundles-requires-clause-left_few
rows_of_bundles-requires-clause-left_few g c = λ κs outlives.
    (let few : length c.captures.left.now ≤ item_limit = c.requires.4 in
    let fewer = in-few c.args.classes c.captures.left.now in
    rw c.items_in.ensures (omega (arith, few, fewer)))

pub rows_of_bundles-requires-clause-right_few : goal.rows_of_bundles-requires-clause-right_few
rows_of_bundles-requires-clause-right_few g c = λ κs outlives.
    (let few : length c.captures.right.now ≤ item_limit = c.requires.5 in
    let fewer = in-few c.args.classes c.captures.right.now in
    rw c.items_in-2.ensures (omega (arith, few, fewer)))

pub rows_of_bundles-requires-clause-left_rise : goal.rows_of_bundles-requires-clause-left_rise
rows_of_bundles-requires-clause-left_rise g c = λ κs outlives.
    rw c.items_in.ensures (in-rise c.args.classes c.captures.left.now c.requires.6)

pub rows_of_bundles-requires-clause-right_rise : goal.rows_of_bundles-requires-clause-right_rise
rows_of_bundles-requires-clause-right_rise g c = λ κs outlives.
    rw c.items_in-2.ensures (in-rise c.args.classes c.captures.right.now c.requires.7)

pub rows_of_bundles-requires-clause-ids : goal.rows_of_bundles-requires-clause-ids
rows_of_bundles-requires-clause-ids g c = λ κs outlives.
    rw c.items_in.ensures (in-distinct c.args.classes c.captures.left.now c.requires.8)
