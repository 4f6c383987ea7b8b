use Rattle.std.proofs.Common.{◌∙◌, ◌++◌, List, [], ◌∷◌, get_or, ap, arith}
use Rattle.std.proofs.lemmas.List.{take_all}
use Rattle.match_core.specs.declared.row_items.ClassedPlace.{ClassedPlace}
use Rattle.match_core.specs.ClassedPlaces.{placed_from}
use Rattle.match_core.proofs.PlacedLemmas.{placed_from-more}
use Rattle.match_core.proofs.row_items.classed_places.Goals as goal

pub loop-place-preserved : goal.loop-place-preserved
loop-place-preserved c =
    let classes = c.args.classes.now in
    let place = c.loop-place.place in
    c.in_ok-push.ensures.items
    ∙ ap (λ (l : List ClassedPlace). l ++ record { class = get_or classes place 0; place = place } ∷ [])
    c.loop-place.invariant
    ∙ placed_from-more 0 classes place place (omega (arith, c.loop-place-test.true)) (omega arith)

pub returns : goal.returns
returns c =
    let classes = c.args.classes.now in
    c.loop-place.invariant
    ∙ ap (placed_from 0) (take_all c.loop-place.place classes (omega (arith, c.loop-place-test.false)))
