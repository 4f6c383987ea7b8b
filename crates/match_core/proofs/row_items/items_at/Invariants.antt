-- The rows at the indices before the loop index are items.
use Rattle.std.proofs.Common.{◌≡◌, Some, map, take}
use Rattle.match_core.specs.ClassedPlaces.{item_placed}
use Rattle.match_core.proofs.row_items.items_at.Given as goal

abbrev pub invariant-loop-i : goal.invariant-loop-i
invariant-loop-i l = map Some l.items.items ≡ map (item_placed l.rows) (take l.i l.places)
