use Rattle.merge_core.proofs.WeightLemmas.{lone_more}
use Rattle.merge_core.proofs.steps.steps_of.Goals as goal

pub loop-item-preserved : goal.loop-item-preserved
loop-item-preserved c =
    lone_more c.args.items.now c.loop-item.item-index c.item-item.result c.loop-item.steps.items _ _
    c.loop-item-test.true c.item-item.is c.in_ok-push.ensures.items c.step_of.ensures c.loop-item.invariant
