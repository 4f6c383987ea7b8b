use Rattle.std.proofs.Common.{◌≡◌, ◌+◌, take}
use Rattle.join_core.specs.Tiles.{reads_in}
use Rattle.join_core.proofs.tiles.reads_upto.Given as goal

abbrev pub invariant-loop-tile : goal.invariant-loop-tile
invariant-loop-tile l = l.left + reads_in (take l.tile-index l.tiles) ≡ l.most
