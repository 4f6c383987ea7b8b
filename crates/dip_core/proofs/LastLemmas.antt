-- The last end of a part.
use Rattle.std.proofs.Common.{◌≡◌, ℕ, ◌+◌, ◌-◌, ◌<◌, ℤ, List, [], ◌∷◌, ◌++◌, length, get_or, Some, arith, ap, ◌∙◌, inl, inr, length-append}
use Rattle.std.specs.Prelude.{option_map}
use Rattle.std.proofs.lemmas.Bool.{cases_lt}
use Rattle.std.proofs.lemmas.Option.{slice_get-get_or}
use Rattle.std.proofs.lemmas.List.{get_or_push}
use Rattle.dip_core.specs.declared.item.Item.{Item}
use Rattle.dip_core.specs.Division.{part_at}
use Rattle.dip_core.specs.Placing.{last_end}
use Rattle.dip_core.proofs.AddedLemmas.{part_at-past}

-- the end of the part's last item, whatever the default
pub last_end_is : (part : List Item) (d : Item) → 0 < length part
    → last_end part ≡ Some (get_or part (length part - 1) d).period.to
last_end_is part d filled =
    ap (λ o. option_map (λ (x : Item). x.period.to) o) (slice_get-get_or part (length part - 1) d (omega arith))

-- a part has one last end
pub same_end : (part : List Item) (e f : ℤ) → last_end part ≡ Some e → last_end part ≡ Some f → e ≡ f
same_end part e f p q = cc

-- a part with a last end exists
pub is_part : (parts : List (List Item)) (k : ℕ) (end : ℤ) → last_end (part_at parts k) ≡ Some end → k < length parts
is_part parts k end ends = elim (cases_lt k (length parts)) [
  | inl less ↦ less
  | inr past ↦ (let none = rw (part_at-past parts k past) at ends in absurd (cc))
]

-- the last end of a part to which `x` was appended
pub last_end-push : (part : List Item) (x : Item) → last_end (part ++ x ∷ []) ≡ Some x.period.to
last_end-push part x =
    let long : length (part ++ x ∷ []) ≡ length part + 1 = length-append part (x ∷ []) in
    let is : get_or (part ++ x ∷ []) (length (part ++ x ∷ []) - 1) x ≡ x =
    get_or_push part x x (length (part ++ x ∷ []) - 1) (omega arith) in
    last_end_is (part ++ x ∷ []) x (omega arith) ∙ ap (λ (y : Item). Some y.period.to) is
