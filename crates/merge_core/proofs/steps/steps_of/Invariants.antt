use Rattle.std.proofs.Common.{take}
use Rattle.merge_core.specs.Combining.{AreLoneSteps}
use Rattle.merge_core.proofs.steps.steps_of.Given as goal

abbrev pub invariant-loop-item : goal.invariant-loop-item
invariant-loop-item l = AreLoneSteps (take l.item-index l.items) l.steps.items
