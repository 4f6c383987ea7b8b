-- Items and the parts that they are divided into.
use Rattle.std.proofs.Common.{◌≡◌, ℕ, zero, suc, ◌<◌, List, [], ◌∷◌, length, Some, refl, sym, subst, ap}
use Rattle.std.specs.Prelude.{Contains, slice_get}
use Rattle.std.proofs.lemmas.Option.{slice_get_within}
use Rattle.dip_core.specs.declared.item.Item.{Item}
use Rattle.dip_core.specs.Item.{HasDistinctIds}
use Rattle.dip_core.specs.Division.{all_of, part_at}
use Rattle.dip_core.proofs.StepLemmas.{contains-all_of}
use Rattle.list_core.proofs.RisingLemmas.{Contains-none}
use Rattle.join_core.proofs.ListLemmas.{Contains-flat_map_source}
use Rattle.dip_core.proofs.PartedLemmas.{distinct-later, ids-apart}

-- the part with a number
part_at-is : (ps : List (List Item)) (k : ℕ) (p : List Item) → slice_get ps k ≡ Some p → part_at ps k ≡ p
part_at-is [] k p h = cc
part_at-is (q ∷ ps) zero p h = cc
part_at-is (q ∷ ps) (suc k) p h = part_at-is ps k p h

-- an item is in some part
pub part_of : (ps : List (List Item)) (x : Item) → Contains (all_of ps) x
    → (k : ℕ) × (k < length ps) × Contains (part_at ps k) x
part_of ps x h =
    let r = Contains-flat_map_source (λ (p : List Item). p) ps x h in
    (r.0, slice_get_within ps r.0 r.1 r.2, subst (λ p. Contains p x) (sym (part_at-is ps r.0 r.1 r.2)) r.3)

-- if ids are distinct, an item is in only one part
pub one_part : (ps : List (List Item)) (i j : ℕ) (x : Item) → HasDistinctIds (all_of ps) → Contains (part_at ps i) x
    → Contains (part_at ps j) x → i ≡ j
one_part [] i j x distinct h k = absurd (Contains-none x h)
one_part (p ∷ ps) zero zero x distinct h k = refl
one_part (p ∷ ps) zero (suc j) x distinct h k =
    absurd (ids-apart p (all_of ps) x x distinct h (contains-all_of ps j x k) refl)
one_part (p ∷ ps) (suc i) zero x distinct h k =
    absurd (ids-apart p (all_of ps) x x distinct k (contains-all_of ps i x h) refl)
one_part (p ∷ ps) (suc i) (suc j) x distinct h k =
    ap suc (one_part ps i j x (distinct-later p (all_of ps) distinct) h k)
