-- The rows from `start` to `i` are items.
use Rattle.std.proofs.Common.{◌≡◌, ◌≤◌, drop, map, take}
use Rattle.agg_core.specs.Grouping.{amount_item}
use Rattle.agg_core.specs.Entries.{amount_at}
use Rattle.agg_core.proofs.one_group.items_of_piece.Given as goal

abbrev pub invariant-loop-i : goal.invariant-loop-i
invariant-loop-i l = record {
  from : l.start ≤ l.i;
  upto : l.i ≤ l.end;
  are : l.items.items ≡ map (amount_item (amount_at l.amount) 0) (drop l.start (take l.i l.rows));
}
