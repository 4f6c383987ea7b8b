use Rattle.std.proofs.Common.{length}
use Rattle.round_core.proofs.CollectLemmas.{IsCollecting}
use Rattle.round_core.proofs.closing.plateaus_in.Given as goal

abbrev pub invariant-lists : goal.invariant-lists
invariant-lists l = IsCollecting l.measure l.fn.lists.items l.lists.items l.plateaus.items

abbrev pub decreases-lists : goal.decreases-lists
decreases-lists l = length l.lists.items
