use Rattle.std.proofs.Common.{length}
use Rattle.round_core.proofs.SortLemmas.{IsSorting}
use Rattle.round_core.proofs.round.sort_out.Given as goal

abbrev pub invariant-lists : goal.invariant-lists
invariant-lists l = IsSorting l.fn.lists.items l.lists.items l.slots.items l.twos.items

abbrev pub decreases-lists : goal.decreases-lists
decreases-lists l = length l.lists.items
