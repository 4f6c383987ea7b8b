use Rattle.std.proofs.Common.{length}
use Rattle.ruzgalt_c.proofs.AggLemmas.{IsGathering}
use Rattle.ruzgalt_c.proofs.agg.plateaus_of_items.Given as goal

abbrev pub invariant-classes : goal.invariant-classes
invariant-classes l = IsGathering l.measure l.items l.left l.plateaus.items

abbrev pub decreases-classes : goal.decreases-classes
decreases-classes l = length l.left
