use Rattle.std.proofs.Common.{◌≤◌, take}
use Rattle.join_core.specs.Tiles.{AddsTilesRows, reads_in}
use Rattle.join_core.proofs.bundle_joins.add_rows_of_tiles.Given as goal

abbrev pub invariant-loop-tile : goal.invariant-loop-tile
invariant-loop-tile g l =
    AddsTilesRows (take l.tile-index l.tiles) l.initial.rows.items l.rows.items
    × (l.made ≤ reads_in (take l.tile-index l.tiles))
