use Rattle.std.proofs.Common.{Global, Vec}
use Rattle.std.specs.Prelude.{IsPermutation}
use Rattle.std.proofs.lemmas.Result.{IfOk-at_ok}
use Rattle.dip_core.specs.declared.item.Item.{Item}
use Rattle.grid_core.specs.Bundles.{ClassesRise}
use Rattle.match_core.specs.Items.{items_in_range}
use Rattle.anti_core.specs.United.{IsUnion}
use Rattle.anti_core.proofs.side_items.items_of_sides.Goals as goal
use Rattle.anti_core.proofs.side_items.items_of_sides.Goals.{In_ok-lefts-2}
use Rattle.anti_core.proofs.side_items.items_of_sides.Given.{Over}

-- the second thread's result for the left items
lefts_are : (g : Over) (c : In_ok-lefts-2 g)
    → IsPermutation (items_in_range c.args.range c.args.left.now.rows.now c.args.left.now.classes.now)
    c.in_ok-lefts-2.lefts.items
    × ClassesRise c.in_ok-lefts-2.lefts.items
lefts_are g c =
    IfOk-at_ok
    (λ (items : Vec Item Global).
    IsPermutation (items_in_range c.args.range c.args.left.now.rows.now c.args.left.now.classes.now) items.items
    × ClassesRise items.items)
    c.in_ok-lefts-2.was c.join-united.ensures.second

pub returns-clause-permutation : goal.returns-clause-permutation
returns-clause-permutation g c = (lefts_are g c).0

pub returns-clause-sorted : goal.returns-clause-sorted
returns-clause-sorted g c = (lefts_are g c).1

pub returns-clause-union : goal.returns-clause-union
returns-clause-union g c =
    IfOk-at_ok
    (λ (united : Vec Item Global).
    IsUnion (items_in_range c.args.range c.args.right.now.rows.now c.args.right.now.classes.now) united.items)
    c.in_ok-united-2.was c.join-united.ensures.first

pub returns-then-workers-lt2-clause-permutation : goal.returns-then-workers-lt2-clause-permutation
returns-then-workers-lt2-clause-permutation g c = c.in_ok-lefts.ensures.permutation

pub returns-then-workers-lt2-clause-sorted : goal.returns-then-workers-lt2-clause-sorted
returns-then-workers-lt2-clause-sorted g c = c.in_ok-lefts.ensures.sorted

pub returns-then-workers-lt2-clause-union : goal.returns-then-workers-lt2-clause-union
returns-then-workers-lt2-clause-union g c = c.in_ok-united.ensures
