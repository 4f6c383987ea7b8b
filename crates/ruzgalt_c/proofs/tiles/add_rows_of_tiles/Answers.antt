use Rattle.join_core.proofs.TileRowLemmas.{AddsTilesRows-more, AddsTilesRows-none}
use Rattle.ruzgalt_c.proofs.tiles.add_rows_of_tiles.Goals as goal

pub loop-tile-init : goal.loop-tile-init
loop-tile-init c = AddsTilesRows-none c.args.rows.now.items

pub loop-tile-preserved : goal.loop-tile-preserved
loop-tile-preserved c =
    AddsTilesRows-more c.args.tiles.now c.loop-tile.tile-index c.tile-item.result c.args.rows.now.items
    c.loop-tile.rows.items c.add_rows_of_tile.new.rows.items c.loop-tile-test.true c.tile-item.is c.requires.apart
    c.loop-tile.invariant c.in_ok-add_rows_of_tile.ensures
