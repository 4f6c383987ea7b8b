use Rattle.std.proofs.Common.{ap, length}
use Rattle.merge_core.proofs.WeightLemmas.{lone_kept, lone_stand_for}
use Rattle.merge_core.proofs.steps.Steps.of_part.Goals as goal

pub invariant_of-result : goal.invariant_of-result
invariant_of-result c =
    lone_kept _ c.args.part.items.now _ (ap length c.items-items.ensures) c.args.part.chained
    (rw c.items-items.ensures at c.in_ok-steps.ensures)

pub returns : goal.returns
returns c =
    lone_stand_for c.args.part.items.now _ (ap length c.items-items.ensures) c.args.part.chained
    (rw c.items-items.ensures at c.in_ok-steps.ensures)
