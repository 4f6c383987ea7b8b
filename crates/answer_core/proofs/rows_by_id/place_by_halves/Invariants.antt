-- The row's index is between both bounds.
use Rattle.std.proofs.Common.{◌-◌}
use Rattle.answer_core.proofs.FoundRows.{IsBetween}
use Rattle.answer_core.proofs.rows_by_id.place_by_halves.Given as goal

abbrev pub invariant-loop-low : goal.invariant-loop-low
invariant-loop-low l = IsBetween l.rows l.id l.low l.high

abbrev pub decreases-loop-low : goal.decreases-loop-low
decreases-loop-low l = l.high - l.low
