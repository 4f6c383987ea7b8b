-- The keys before the index that are within the range follow the keys that were there.
use Rattle.std.proofs.Common.{◌≡◌, ◌++◌, take}
use Rattle.match_core.specs.Cells.{cells_in}
use Rattle.match_core.proofs.cells.add_cells_in.Given as goal

abbrev pub invariant-loop-cell : goal.invariant-loop-cell
invariant-loop-cell g l =
    l.found.items ≡ l.fn.found.items ++ cells_in g.V.Ord.cmp l.range (take l.cell-index l.cells)
