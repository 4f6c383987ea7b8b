use Rattle.std.proofs.Common.{◌∙◌, arith}
use Rattle.version_core.proofs.OpenLemmas.{closed-more}
use Rattle.version_core.proofs.versions.close_all.Goals as goal

pub close-requires : goal.close-requires
close-requires c =
    let inside = c.requires c.loop-place.place-index 0 c.loop-place-test.true in
    omega (arith, inside, c.loop-place.invariant.same)

pub loop-place-preserved : goal.loop-place-preserved
loop-place-preserved c = record {
  closed = closed-more c.args.commit c.args.versions.now c.loop-place.versions _ c.args.places.now
      c.loop-place.place-index c.loop-place-test.true c.loop-place.invariant.closed c.close.ensures.closed;
  same = c.close.ensures.len ∙ c.loop-place.invariant.same;
}
