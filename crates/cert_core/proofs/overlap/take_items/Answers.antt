use Rattle.std.proofs.Common.{◌≡◌, ◌<◌, [], ◌∷◌, ◌++◌, length, take, get_or, subst, sym, ap, ◌∙◌}
use Rattle.std.specs.Prelude.{All, Contains, map}
use Rattle.std.proofs.lemmas.List.{take_all, map_push, map_more}
use Rattle.std.proofs.lemmas.List.Elements.{All-push}
use Rattle.dip_core.specs.declared.item.Item.{Item}
use Rattle.cert_core.specs.Places.{id_at}
use Rattle.cert_core.proofs.IdsLemmas.{id_at-get_or}
use Rattle.cert_core.proofs.overlap.take_items.Goals as goal

pub loop-place-preserved : goal.loop-place-preserved
loop-place-preserved c =
    let within : get_or c.args.places.now c.loop-place.place-index 0 < length c.args.items.now =
    c.requires c.loop-place.place-index 0 c.loop-place-test.true in
    let here : id_at c.args.items.now
    (get_or c.args.places.now c.loop-place.place-index 0) ≡ c.index-items-place.result.id =
    id_at-get_or c.args.items.now
    (get_or c.args.places.now c.loop-place.place-index 0) c.index-items-place.result within
    ∙ ap (λ (x : Item). x.id) (sym c.index-items-place.is) in
    record {
      members = subst (All (Contains c.args.items.now)) (sym c.in_ok-push.ensures.items)
          (All-push
          (Contains c.args.items.now) c.loop-place.taken.items c.index-items-place.result
          c.loop-place.invariant.members
          (get_or c.args.places.now c.loop-place.place-index 0, within, sym c.index-items-place.is));
      named = ap (map (λ (x : Item). x.id)) c.in_ok-push.ensures.items
          ∙ (map_push (λ (x : Item). x.id) c.loop-place.taken.items c.index-items-place.result
          ∙ (ap (λ l. l ++ c.index-items-place.result.id ∷ []) c.loop-place.invariant.named
          ∙ (ap (λ n. map (id_at c.args.items.now) (take c.loop-place.place-index c.args.places.now) ++ n ∷ [])
          (sym here)
          ∙ sym (map_more
          (id_at c.args.items.now) c.args.places.now c.loop-place.place-index 0 c.loop-place-test.true))));
    }

pub returns : goal.returns
returns c = λ ids are. record {
  members = c.loop-place.invariant.members;
  named = c.loop-place.invariant.named
      ∙ (ap (map (id_at c.args.items.now))
      (take_all c.loop-place.place-index c.args.places.now c.loop-place-test.false) ∙ are.named);
}
