-- The sort keys are those within the range in the lists before the index.
use Rattle.std.proofs.Common.{◌≡◌, take}
use Rattle.list_core.specs.Chunks.{all_in}
use Rattle.match_core.specs.Cells.{cells_in}
use Rattle.match_core.proofs.cells.sorted_in.Given as goal

abbrev pub invariant-loop-list : goal.invariant-loop-list
invariant-loop-list g l = l.cells.items ≡ cells_in g.V.Ord.cmp l.range (all_in (take l.list-index l.made))
