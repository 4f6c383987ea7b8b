use Rattle.std.proofs.Common.{◌≡◌, ◌∙◌, List, subst, sym, ap}
use Rattle.dip_core.specs.declared.item.Item.{Item}
use Rattle.dip_core.specs.Item.{HasDistinctIds}
use Rattle.dip_core.specs.Division.{all_of, IsDip, IsLeastDivision, IsPlaced}
use Rattle.dip_core.specs.Placing.{Placing}
use Rattle.dip_core.specs.Invariants.{ArePlaced}
use Rattle.dip_core.proofs.DivisionLemmas.{IsLeastDivision-from_placed}
use Rattle.dip_core.proofs.placer.Placer.finish.Goals as goal

-- the placer's parts, the parts that contracts see, and the division's parts are the same
least_of : (kept parts result : List (List Item)) → kept ≡ parts → result ≡ kept → ArePlaced kept
    → IsLeastDivision (all_of parts) result
least_of kept parts result were is placed =
    subst (IsLeastDivision (all_of parts)) (sym (is ∙ were))
    (IsLeastDivision-from_placed parts (subst ArePlaced were placed))

dip_of : (kept parts result : List (List Item)) → kept ≡ parts → result ≡ kept → ArePlaced kept
    → HasDistinctIds (all_of parts) → IsDip (all_of parts) result
dip_of kept parts result were is placed distinct = record {
  divided = least_of kept parts result were is placed;
  placed = subst IsPlaced (sym (is ∙ were)) ((subst ArePlaced were placed).placed distinct);
}

pub returns-clause-least : goal.returns-clause-least
returns-clause-least c =
    least_of c.self.inside.parts c.args.self.parts c.from_parts.result
    (ap (λ (p : Placing). p.parts) c.self.view_is)
    (c.from_parts.ensures ∙ c.finish.ensures) c.self.invariant.are_placed

pub returns-clause-dip : goal.returns-clause-dip
returns-clause-dip c =
    dip_of c.self.inside.parts c.args.self.parts c.from_parts.result
    (ap (λ (p : Placing). p.parts) c.self.view_is)
    (c.from_parts.ensures ∙ c.finish.ensures) c.self.invariant.are_placed
