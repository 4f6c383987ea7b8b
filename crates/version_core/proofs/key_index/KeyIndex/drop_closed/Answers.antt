use Rattle.std.proofs.Common.{◌≡◌, ◌∷◌, ◌+◌, drop, get_or, subst}
use Rattle.std.proofs.lemmas.List.{drop_all, drop_more}
use Rattle.version_core.specs.KeyIndex.{HasOnlyOpen}
use Rattle.version_core.proofs.key_index.KeyIndex.drop_closed.Goals as goal

pub loop-place-preserved : goal.loop-place-preserved
loop-place-preserved c =
    let vs = c.args.versions.now in
    let places = c.args.places.now in
    let i = c.loop-place.place-index in
    let next : drop i places ≡ get_or places i 0 ∷ drop (i + 1) places =
    drop_more places i 0 c.loop-place-test.true in
    record {
      index = c.drop_closed_at.ensures.index;
      only = c.drop_closed_at.ensures.only (drop (i + 1) places)
          (subst (λ gone. HasOnlyOpen vs gone c.loop-place.self) next c.loop-place.invariant.only);
    }

pub returns-clause-only : goal.returns-clause-only
returns-clause-only c =
    subst (λ gone. HasOnlyOpen c.args.versions.now gone c.loop-place.self)
    (drop_all c.loop-place.place-index c.args.places.now c.loop-place-test.false) c.loop-place.invariant.only
