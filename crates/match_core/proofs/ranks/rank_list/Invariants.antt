-- The rows of the keys before the index have ranks.
use Rattle.std.proofs.Common.{◌+◌}
use Rattle.list_core.specs.Chunks.{all_in}
use Rattle.match_core.specs.Cells.{AreRankedUpto, count_before}
use Rattle.match_core.proofs.ranks.rank_list.Given as goal

abbrev pub invariant-loop-i : goal.invariant-loop-i
invariant-loop-i g l =
    AreRankedUpto g.V.Ord.cmp (all_in l.lists) (count_before l.number l.lists + l.i) l.firsts.items l.ranks
    l.places.items
