use Rattle.std.proofs.Common.{◌+◌, ◌*◌, ◌^◌, ◌<◌, ◌≤◌, length, take, arith}
use Rattle.join_core.specs.Tiles.{reads_in}
use Rattle.join_core.proofs.TileRowLemmas.{AddsTilesRows-more, AddsTilesRows-none, reads_in-more, reads_in-take}
use Rattle.join_core.proofs.bundle_joins.add_rows_of_tiles.Goals as goal

pub loop-tile-init : goal.loop-tile-init
loop-tile-init g c = (AddsTilesRows-none c.args.rows.now.items, omega arith)

pub overflow_add-made : goal.overflow_add-made
overflow_add-made g c =
    let tiles = c.args.tiles.now in
    let i = c.loop-tile.tile-index in
    let so_far : c.loop-tile.made ≤ reads_in (take i tiles) = c.loop-tile.invariant.1 in
    let here : c.in_ok-made.field-0 ≤ 2 * (length c.tile-item.result.left.items * length c.tile-item.result.right.items) =
    c.in_ok-made.ensures.few in
    let more = reads_in-more tiles i c.tile-item.result c.loop-tile-test.true c.tile-item.is in
    let all = reads_in-take tiles (i + 1) in
    let few : reads_in tiles < 2 ^ 64 = c.requires.few in
    omega (arith, so_far, here, more, all, few)

pub loop-tile-preserved : goal.loop-tile-preserved
loop-tile-preserved g c =
    let tiles = c.args.tiles.now in
    let i = c.loop-tile.tile-index in
    let so_far : c.loop-tile.made ≤ reads_in (take i tiles) = c.loop-tile.invariant.1 in
    let here : c.in_ok-made.field-0 ≤ 2 * (length c.tile-item.result.left.items * length c.tile-item.result.right.items) =
    c.in_ok-made.ensures.few in
    let more = reads_in-more tiles i c.tile-item.result c.loop-tile-test.true c.tile-item.is in (
      AddsTilesRows-more tiles i c.tile-item.result c.args.rows.now.items c.loop-tile.rows.items
          c.add_rows_of_tile.new.rows.items c.loop-tile-test.true c.tile-item.is c.requires.apart
          c.loop-tile.invariant.0 c.in_ok-made.ensures.rows,
      omega (arith, so_far, here, more),
    )
