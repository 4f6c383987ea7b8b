use Rattle.std.proofs.Common.{arith}
use Rattle.round_core.proofs.TwoLemmas.{two_of_all}
use Rattle.round_core.proofs.tally_round.combine_two.Goals as goal

pub combine-requires : goal.combine-requires
combine-requires c =
    let both =
    two_of_all c.args.lists.now c.args.pair.left c.args.pair.right c.index-lists-pair.result
    c.index-lists-pair-2.result c.requires.order c.requires.within c.index-lists-pair.is c.index-lists-pair-2.is in
    let light = c.requires.light in
    omega (arith, both, light)
