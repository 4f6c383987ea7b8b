use Rattle.std.proofs.Common.{length}
use Rattle.round_core.proofs.RunLemmas.{IsListing}
use Rattle.round_core.proofs.step_lists.class_lists.Given as goal

abbrev pub invariant-runs : goal.invariant-runs
invariant-runs g l = IsListing l.items l.left l.lists.items

abbrev pub decreases-runs : goal.decreases-runs
decreases-runs g l = length l.left
