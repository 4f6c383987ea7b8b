use Rattle.std.proofs.Common.{length, ◌-◌, ◌<◌}
use Rattle.merge_core.proofs.cursor.count_ended.Given as goal

abbrev pub invariant-loop-reach : goal.invariant-loop-reach
invariant-loop-reach l = 0 < l.reach

abbrev pub decreases-loop-reach : goal.decreases-loop-reach
decreases-loop-reach l = length l.items - l.reach
