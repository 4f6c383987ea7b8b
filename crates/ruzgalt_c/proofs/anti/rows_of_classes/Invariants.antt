use Rattle.std.proofs.Common.{length}
use Rattle.anti_core.proofs.BundleLemmas.{IsBundling}
use Rattle.ruzgalt_c.specs.Anti.{HoldApart}
use Rattle.ruzgalt_c.proofs.anti.rows_of_classes.Given as goal

abbrev pub invariant-classes : goal.invariant-classes
invariant-classes l = IsBundling l.left l.right l.lefts l.rights l.rows.items × HoldApart l.rights

abbrev pub decreases-classes : goal.decreases-classes
decreases-classes l = length l.lefts
