use Rattle.list_core.specs.Chunks.{all_in}
use Rattle.join_core.proofs.FoundLemmas.{IsFoundSoFar}
use Rattle.join_core.proofs.found.FoundRows.of_all.Given as goal

abbrev pub invariant-loop-found : goal.invariant-loop-found
invariant-loop-found l = IsFoundSoFar l.fn.all.items l.found-iterator.rest.items (all_in l.lists.items) l.advances
