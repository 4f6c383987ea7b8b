use Rattle.std.proofs.Common.{◌≤◌, ap, arith, length, subst, sym}
use Rattle.dip_core.specs.Item.{item_limit}
use Rattle.grid_core.proofs.RangeItems.{in-few, in-rise}
use Rattle.grid_core.specs.Bundles.{ClassesRise}
use Rattle.round_core.proofs.plateaus.fn.plateaus_of.shared_out.Goals as goal

pub plateaus_of_spans-requires-clause-few : goal.plateaus_of_spans-requires-clause-few
plateaus_of_spans-requires-clause-few g c κs within =
    let few : length c.captures.items.now ≤ item_limit = c.requires.4 in
    let fewer = in-few c.args.classes c.captures.items.now in
    let same = ap length c.items_in-own.ensures in
    omega (arith, few, fewer, same)

pub plateaus_of_spans-requires-clause-rise : goal.plateaus_of_spans-requires-clause-rise
plateaus_of_spans-requires-clause-rise g c κs within =
    subst ClassesRise (sym c.items_in-own.ensures)
    (in-rise c.args.classes c.captures.items.now c.requires.5)
