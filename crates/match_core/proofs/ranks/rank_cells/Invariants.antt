-- The rows of the keys in the lists before the index have ranks.
use Rattle.list_core.specs.Chunks.{all_in}
use Rattle.match_core.specs.Cells.{AreRankedUpto, count_before}
use Rattle.match_core.proofs.ranks.rank_cells.Given as goal

abbrev pub invariant-loop-number : goal.invariant-loop-number
invariant-loop-number g l =
    AreRankedUpto g.V.Ord.cmp (all_in l.lists) (count_before l.number l.lists) l.firsts.items l.ranks
    l.places.items
