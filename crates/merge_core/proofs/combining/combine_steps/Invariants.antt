use Rattle.std.specs.Prelude.{pos, ◌-ℤ◌, unsigned_abs}
use Rattle.merge_core.proofs.CombineLemmas.{IsCombining}
use Rattle.merge_core.proofs.combining.combine_steps.Given as goal

abbrev pub invariant-loop-step : goal.invariant-loop-step
invariant-loop-step l = IsCombining l.one l.other l.lefts l.rights l.at l.steps.items

abbrev pub decreases-loop-step : goal.decreases-loop-step
decreases-loop-step l = unsigned_abs (pos 253_402_300_800 -ℤ l.at)
