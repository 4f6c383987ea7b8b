use Rattle.std.proofs.Common.{length}
use Rattle.anti_core.proofs.BundleLemmas.{IsBundling}
use Rattle.anti_core.proofs.bundle_gaps.rows_of_bundles.Given as goal

abbrev pub invariant-bundles : goal.invariant-bundles
invariant-bundles g l = IsBundling l.left l.right l.lefts l.rights l.rows.items

abbrev pub decreases-bundles : goal.decreases-bundles
decreases-bundles g l = length l.lefts
