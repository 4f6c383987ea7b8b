use Rattle.std.proofs.Common.{drop, ◌≡◌}
use Rattle.merge_core.specs.Steps.{tally_at}
use Rattle.merge_core.proofs.steps.find_tally.Given as goal

abbrev pub invariant-loop-step : goal.invariant-loop-step
invariant-loop-step l = tally_at l.steps l.at ≡ tally_at (drop l.step-index l.steps) l.at
