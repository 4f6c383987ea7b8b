-- The indices before the loop index.
use Rattle.std.proofs.Common.{◌≡◌, take}
use Rattle.match_core.specs.ClassedPlaces.{placed_from}
use Rattle.match_core.proofs.row_items.classed_places.Given as goal

abbrev pub invariant-loop-place : goal.invariant-loop-place
invariant-loop-place l = l.places.items ≡ placed_from 0 (take l.place l.classes)
