-- The sort keys are those of the rows from `start` to `i`.
use Rattle.std.proofs.Common.{◌≤◌, drop, take}
use Rattle.match_core.specs.Cells.{AreCellsAt}
use Rattle.match_core.specs.ClassedPlaces.{placed_from}
use Rattle.match_core.proofs.cells.cells_of.Given as goal

abbrev pub invariant-loop-i : goal.invariant-loop-i
invariant-loop-i g l = record {
  from : l.start ≤ l.i;
  upto : l.i ≤ l.end;
  are : AreCellsAt g.S.Comparable.IsOf (g.S.Classed.classes l.side) (g.S.Classed.column l.side)
      (drop l.start (take l.i (placed_from 0 (g.S.Classed.classes l.side)))) l.cells.items;
}
