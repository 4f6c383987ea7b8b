use Rattle.std.proofs.Common.{◌≡◌, ◌∙◌, ◌<◌, Global, List, Some, Vec, ap, length, map, rules, subst, sym}
use Rattle.std.specs.Prelude.{All}
use Rattle.std.proofs.lemmas.Result.{IfOk-at_ok}
use Rattle.dip_core.specs.declared.item.Item.{Item}
use Rattle.match_core.specs.declared.row_items.ClassedPlace.{ClassedPlace}
use Rattle.match_core.specs.ClassedPlaces.{item_placed}
use Rattle.match_core.proofs.PlacedLemmas.{by_class-items, by_class-within}
use Rattle.match_core.proofs.row_items.items_of_sides.Goals as goal

pub items_by_range-requires-clause-within : goal.items_by_range-requires-clause-within
items_by_range-requires-clause-within g c = λ κs outlives.
    subst (λ (l : List ClassedPlace). All (λ (at : ClassedPlace). at.place < length c.args.left.now) l)
    (sym c.as_slice-lefts.ensures.value)
    (by_class-within c.args.left.now c.args.classes.left.items c.args.classes.left_places.items
    c.requires.left c.requires.left_places)

pub items_by_range-requires-then-workers-lt2-clause-within : goal.items_by_range-requires-then-workers-lt2-clause-within
items_by_range-requires-then-workers-lt2-clause-within g c = λ κs outlives.
    subst (λ (l : List ClassedPlace). All (λ (at : ClassedPlace). at.place < length c.args.right.now) l)
    (sym c.as_slice-rights.ensures.value)
    (by_class-within c.args.right.now c.args.classes.right.items c.args.classes.right_places.items
    c.requires.right c.requires.right_places)

pub join-lefts-requires-after_bounds : goal.join-lefts-requires-after_bounds
join-lefts-requires-after_bounds g c κs within =
    let lefts : All (λ (at : ClassedPlace). at.place < length c.args.left.now) c.as_slice-lefts.result.now =
    subst (λ (l : List ClassedPlace). All (λ (at : ClassedPlace). at.place < length c.args.left.now) l)
    (sym c.as_slice-lefts.ensures.value)
    (by_class-within c.args.left.now c.args.classes.left.items c.args.classes.left_places.items
    c.requires.left c.requires.left_places) in
    let rights : All (λ (at : ClassedPlace). at.place < length c.args.right.now) c.as_slice-rights.result.now =
    subst (λ (l : List ClassedPlace). All (λ (at : ClassedPlace). at.place < length c.args.right.now) l)
    (sym c.as_slice-rights.ensures.value)
    (by_class-within c.args.right.now c.args.classes.right.items c.args.classes.right_places.items
    c.requires.right c.requires.right_places) in
    search rules

pub returns-then-workers-lt2-clause-left : goal.returns-then-workers-lt2-clause-left
returns-then-workers-lt2-clause-left g c =
    by_class-items c.args.left.now c.args.classes.left.items c.args.classes.left_places.items c.requires.left
    c.requires.left_places c.in_ok-lefts.lefts.items
    (c.in_ok-lefts.ensures ∙ ap (map (item_placed c.args.left.now)) c.as_slice-lefts.ensures.value)

pub returns-then-workers-lt2-clause-right : goal.returns-then-workers-lt2-clause-right
returns-then-workers-lt2-clause-right g c =
    by_class-items c.args.right.now c.args.classes.right.items c.args.classes.right_places.items
    c.requires.right c.requires.right_places c.in_ok-rights.rights.items
    (c.in_ok-rights.ensures ∙ ap (map (item_placed c.args.right.now)) c.as_slice-rights.ensures.value)

pub returns-clause-left : goal.returns-clause-left
returns-clause-left g c =
    by_class-items c.args.left.now c.args.classes.left.items c.args.classes.left_places.items c.requires.left
    c.requires.left_places c.in_ok-lefts-2.lefts.items
    (IfOk-at_ok (λ (items : Vec Item Global).
    map Some items.items ≡ map (item_placed c.args.left.now) c.as_slice-lefts.result.now)
    c.in_ok-lefts-2.was c.join-lefts.ensures.first
    ∙ ap (map (item_placed c.args.left.now)) c.as_slice-lefts.ensures.value)

pub returns-clause-right : goal.returns-clause-right
returns-clause-right g c =
    by_class-items c.args.right.now c.args.classes.right.items c.args.classes.right_places.items
    c.requires.right c.requires.right_places c.in_ok-rights-2.rights.items
    (IfOk-at_ok (λ (items : Vec Item Global).
    map Some items.items ≡ map (item_placed c.args.right.now) c.as_slice-rights.result.now)
    c.in_ok-rights-2.was c.join-lefts.ensures.second
    ∙ ap (map (item_placed c.args.right.now)) c.as_slice-rights.ensures.value)
