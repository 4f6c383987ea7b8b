use Rattle.std.proofs.Common.{◌≤◌, ◌/◌, arith, refl, sym}
use Rattle.join_core.proofs.TileLemmas.{AreTiles-divisible}
use Rattle.join_core.specs.Tiles.{reads_in}
use Rattle.join_core.proofs.tiles.tiles_cut_at.Goals as goal

pub reads_upto-requires : goal.reads_upto-requires
reads_upto-requires c =
    rw c.deref.ensures.value
    (AreTiles-divisible c.args.left.now c.args.right.now c.in_ok-tiles.tiles.items c.in_ok-tiles.ensures)

pub returns : goal.returns
returns c =
    let few : reads_in c.in_ok-tiles.tiles.items ≤ c.args.most / 2 =
    rw (sym c.deref.ensures.value) (c.if-not-reads_upto.ensures refl) in
    (c.in_ok-tiles.ensures, omega (arith, few))
