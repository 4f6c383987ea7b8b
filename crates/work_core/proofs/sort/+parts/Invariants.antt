use Rattle.std.proofs.Common.{◌+◌, ◌*◌}
use Rattle.work_core.proofs.sort.+parts.Given as goal

abbrev pub decreases-sort_parts : goal.decreases-sort_parts
decreases-sort_parts g l = 4 * l.workers + 3

abbrev pub decreases-sort_both : goal.decreases-sort_both
decreases-sort_both g l = 4 * l.workers + 2

abbrev pub decreases-sort_both-sort_low : goal.decreases-sort_both-sort_low
decreases-sort_both-sort_low g l = 4 * l.workers + 1

abbrev pub decreases-sort_both-sort_high : goal.decreases-sort_both-sort_high
decreases-sort_both-sort_high g l = 4 * l.workers + 1
