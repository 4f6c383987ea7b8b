use Rattle.std.proofs.Common.{length}
use Rattle.std.specs.Vec.Iter.{into_iter_items}
use Rattle.round_core.specs.Rounds.{filled}
use Rattle.round_core.proofs.SortLemmas.{IsFilling}
use Rattle.round_core.proofs.round.fill.Given as goal

abbrev pub invariant-slots : goal.invariant-slots
invariant-slots l =
    IsFilling (filled l.fn.slots.items l.fn.made.items) l.lists.items l.slots.items (into_iter_items l.made)

abbrev pub decreases-slots : goal.decreases-slots
decreases-slots l = length l.slots.items
