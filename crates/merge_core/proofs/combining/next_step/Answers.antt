use Rattle.merge_core.proofs.CombineLemmas.{next_both, heads_add}
use Rattle.merge_core.proofs.combining.next_step.Goals as goal

pub first_of_both-requires : goal.first_of_both-requires
first_of_both-requires c =
    heads_add c.args.at c.args.lefts.now c.args.rights.now c.in-Some.x c.in-Some-head_from.y c.requires.can_add
    c.in-Some.ensures c.in-Some-head_from.ensures

pub returns : goal.returns
returns c =
    next_both c.args.at c.args.lefts.now c.args.rights.now c.in-Some.x c.in-Some-head_from.y c.first_of_both.result
    c.in-Some.ensures c.in-Some-head_from.ensures c.first_of_both.ensures
