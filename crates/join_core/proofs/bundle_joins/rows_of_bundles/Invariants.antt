use Rattle.std.proofs.Common.{length}
use Rattle.join_core.proofs.FoundLemmas.{IsFinding}
use Rattle.join_core.proofs.bundle_joins.rows_of_bundles.Given as goal

abbrev pub invariant-bundles : goal.invariant-bundles
invariant-bundles g l = IsFinding l.left l.right l.lefts l.rights l.rows.items l.advances

abbrev pub decreases-bundles : goal.decreases-bundles
decreases-bundles g l = length l.lefts
