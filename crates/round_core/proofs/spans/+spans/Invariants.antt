use Rattle.std.proofs.Common.{◌+◌, ◌*◌}
use Rattle.round_core.proofs.spans.+spans.Given as goal

abbrev pub decreases-plateaus_of_spans : goal.decreases-plateaus_of_spans
decreases-plateaus_of_spans g l = 8 * l.cuts

abbrev pub decreases-plateaus_within : goal.decreases-plateaus_within
decreases-plateaus_within g l = 8 * l.cuts + 1

abbrev pub decreases-plateaus_before : goal.decreases-plateaus_before
decreases-plateaus_before g l = 8 * l.cuts + 2

abbrev pub decreases-plateaus_from : goal.decreases-plateaus_from
decreases-plateaus_from g l = 8 * l.cuts + 2

abbrev pub decreases-plateaus_of_halves-join+arg2 : goal.decreases-plateaus_of_halves-join+arg2
decreases-plateaus_of_halves-join+arg2 g l = 8 * l.cuts + 3

abbrev pub decreases-plateaus_of_halves-join+arg3 : goal.decreases-plateaus_of_halves-join+arg3
decreases-plateaus_of_halves-join+arg3 g l = 8 * l.cuts + 3

abbrev pub decreases-plateaus_of_halves : goal.decreases-plateaus_of_halves
decreases-plateaus_of_halves g l = 8 * l.cuts + 4

abbrev pub decreases-plateaus_cut_at : goal.decreases-plateaus_cut_at
decreases-plateaus_cut_at g l = 8 * l.cuts + 5
