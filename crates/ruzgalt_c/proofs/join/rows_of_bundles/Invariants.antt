use Rattle.std.proofs.Common.{length}
use Rattle.join_core.proofs.FoundLemmas.{IsFinding}
use Rattle.ruzgalt_c.proofs.join.rows_of_bundles.Given as goal

abbrev pub invariant-bundles : goal.invariant-bundles
invariant-bundles l = (made : _) × IsFinding l.left l.right l.lefts l.rights l.rows.items made

abbrev pub decreases-bundles : goal.decreases-bundles
decreases-bundles l = length l.lefts
