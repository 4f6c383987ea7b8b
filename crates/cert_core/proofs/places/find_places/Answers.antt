use Rattle.std.proofs.Common.{◌≡◌, ◌+◌, [], ◌∷◌, ◌++◌, take, drop, get_or, subst, sym, ap, ◌∙◌}
use Rattle.std.proofs.lemmas.List.{take_more, take_all, take-append-drop, drop_more}
use Rattle.cert_core.specs.Places.{ArePlaces}
use Rattle.cert_core.proofs.PlacesLemmas.{ArePlaces-nil, ArePlaces-push, known-from_places, place_of_item}
use Rattle.cert_core.proofs.places.find_places.Goals as goal

pub loop-id-init : goal.loop-id-init
loop-id-init c = subst (ArePlaces c.args.items.now []) (sym c.requires.empty) (ArePlaces-nil c.args.items.now)

pub loop-id-preserved : goal.loop-id-preserved
loop-id-preserved c =
    let longer : take
    (c.loop-id.id-index + 1) c.args.ids.now ≡ take c.loop-id.id-index c.args.ids.now ++ get_or c.args.ids.now
    c.loop-id.id-index 0 ∷ [] =
    take_more c.args.ids.now c.loop-id.id-index 0 c.loop-id-test.true in
    subst (λ ids. ArePlaces c.args.items.now ids c.push.new.self.items) (sym longer)
    (subst (ArePlaces c.args.items.now
    (take c.loop-id.id-index c.args.ids.now ++ get_or c.args.ids.now c.loop-id.id-index 0 ∷ []))
    (sym c.in_ok-push.ensures.items)
    (ArePlaces-push c.args.items.now (take c.loop-id.id-index c.args.ids.now) c.loop-id.places.items
    (get_or c.args.ids.now c.loop-id.id-index 0) c.in-Some.place c.loop-id.invariant c.in-Some.ensures.0
    c.in-Some.ensures.1))

pub returns-in_default : goal.returns-in_default
returns-in_default c = record {
  before = take c.loop-id.id-index c.args.ids.now;
  after = drop (c.loop-id.id-index + 1) c.args.ids.now;
  stands = sym (take-append-drop c.loop-id.id-index c.args.ids.now)
      ∙ ap (λ l. take c.loop-id.id-index c.args.ids.now ++ l)
      (drop_more c.args.ids.now c.loop-id.id-index 0 c.loop-id-test.true);
  unknown = λ has. let (p, h, is) =
      place_of_item c.args.items.now (get_or c.args.ids.now c.loop-id.id-index 0) has in c.in_default.ensures p h is;
  first = known-from_places c.args.items.now
      (take c.loop-id.id-index c.args.ids.now) c.loop-id.places.items c.loop-id.invariant;
}

pub returns : goal.returns
returns c =
    subst (λ ids. ArePlaces c.args.items.now ids c.loop-id.places.items)
    (take_all c.loop-id.id-index c.args.ids.now c.loop-id-test.false) c.loop-id.invariant
