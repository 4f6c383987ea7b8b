use Rattle.std.proofs.Common.{length}
use Rattle.round_core.proofs.ClosingLemmas.{IsClosing}
use Rattle.round_core.proofs.closing.add_plateaus.Given as goal

abbrev pub invariant-steps : goal.invariant-steps
invariant-steps l = IsClosing l.measure l.class l.steps l.left l.row l.initial.plateaus.items l.plateaus.items

abbrev pub decreases-steps : goal.decreases-steps
decreases-steps l = length l.left
