-- The rows from `start` to `i` whose classes are within the range are items.
use Rattle.std.proofs.Common.{◌≡◌, ◌≤◌}
use Rattle.match_core.proofs.RowItems.{items_from}
use Rattle.match_core.proofs.row_items.items_in_piece.Given as goal

abbrev pub invariant-loop-i : goal.invariant-loop-i
invariant-loop-i l = record {
  from : l.start ≤ l.i;
  upto : l.i ≤ l.end;
  are : l.items.items ≡ items_from l.range l.rows l.classes l.start l.i;
}
