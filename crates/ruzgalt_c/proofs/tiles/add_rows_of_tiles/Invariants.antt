use Rattle.std.proofs.Common.{take}
use Rattle.join_core.specs.Tiles.{AddsTilesRows}
use Rattle.ruzgalt_c.proofs.tiles.add_rows_of_tiles.Given as goal

abbrev pub invariant-loop-tile : goal.invariant-loop-tile
invariant-loop-tile l = AddsTilesRows (take l.tile-index l.tiles) l.initial.rows.items l.rows.items
