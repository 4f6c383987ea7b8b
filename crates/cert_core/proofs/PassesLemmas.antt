-- A claim without a fault is a division of the items, and vice versa.
use Rattle.std.proofs.Common.{◌≡◌, ℕ, suc, ◌+◌, ◌<◌, ◌≤◌, cond, List, [], ◌∷◌, ◌++◌, length, get_or, arith, refl, sym, ap, ◌∙◌, subst, inl, inr}
use Rattle.std.specs.Prelude.{All, Contains, map, count_by, ◌==◌, IsPermutation, remove}
use Rattle.std.proofs.lemmas.List.{map-append, length-map, get_or-map}
use Rattle.std.proofs.lemmas.List.Elements.{All-head, All-tail, All-cons, All-nil, All-append, All-contains, All-map, All-weaker, Contains-get_or}
use Rattle.std.proofs.lemmas.List.Sums.{sum_by-cons}
use Rattle.std.proofs.lemmas.List.Sorted.{IsPermutation-refl, IsPermutation-sym, IsPermutation-cons, IsPermutation-trans, IsPermutation-remove, Contains-permutation}
use Rattle.list_core.proofs.RisingLemmas.{Contains-cons, Contains-cons_cases, Contains-none}
use Rattle.list_core.proofs.PlaceLemmas.{All-front, All-back}
use Rattle.dip_core.specs.declared.item.Item.{Item}
use Rattle.dip_core.specs.Item.{IdsRise, HasDistinctIds, IsApart}
use Rattle.dip_core.specs.Division.{all_of}
use Rattle.dip_core.proofs.IdsLemmas.{HasDistinctIds-from_rising}
use Rattle.dip_core.proofs.DivisionLemmas.{HasDistinctIds-permutation}
use Rattle.cert_core.specs.declared.verdict.Certificate.{Certificate}
use Rattle.cert_core.specs.Claim.{ids_of}
use Rattle.cert_core.specs.Ids.{IsDistinct}
use Rattle.cert_core.specs.Places.{AreNamed}
use Rattle.cert_core.specs.Verdict.{HasItem, HasNoOverlap, IsCertified}
use Rattle.cert_core.specs.Passes.{Passes}
use Rattle.cert_core.proofs.IdsLemmas.{IsDistinct-append_left, IsDistinct-append_right, distinct-differ, same_item}
use Rattle.cert_core.proofs.OverlapLemmas.{Contains-id, item_of_id, IsItemOf-from_named, named-from_IsItemOf, no_overlap_apart}

-- ---- items of one list are items of another

count-ids : (xs : List Item) (i : ℕ)
    → count_by (λ id. id == i) (map (λ (x : Item). x.id) xs) ≡ count_by (λ x. x.id == i) xs
count-ids [] i = refl
count-ids (x ∷ xs) i =
    sum_by-cons (λ id. cond (id == i) 1 0) x.id (map (λ (y : Item). y.id) xs)
    ∙ (ap (λ n. cond (x.id == i) 1 0 + n) (count-ids xs i)
    ∙ sym (sum_by-cons (λ (y : Item). cond (y.id == i) 1 0) x xs))

IsDistinct-from_items : (xs : List Item) → HasDistinctIds xs → IsDistinct (map (λ (x : Item). x.id) xs)
IsDistinct-from_items xs distinct i =
    let same = count-ids xs i in let most : count_by (λ x. x.id == i) xs ≤ 1 = distinct i in omega arith

HasDistinctIds-from_ids : (xs : List Item) → IsDistinct (map (λ (x : Item). x.id) xs) → HasDistinctIds xs
HasDistinctIds-from_ids xs distinct i =
    let same = count-ids xs i in
    let most : count_by (λ id. id == i) (map (λ (x : Item). x.id) xs) ≤ 1 = distinct i in
    omega arith

HasDistinctIds-tail : (x : Item) (xs : List Item) → HasDistinctIds (x ∷ xs) → HasDistinctIds xs
HasDistinctIds-tail x xs distinct i =
    let split : count_by (λ (y : Item). y.id == i) (x ∷ xs) ≡ cond (x.id == i) 1 0 + count_by
    (λ (y : Item). y.id == i) xs = sum_by-cons (λ (y : Item). cond (y.id == i) 1 0) x xs in
    let most : count_by (λ (y : Item). y.id == i) (x ∷ xs) ≤ 1 = distinct i in
    omega arith

-- the first item isn't among the others
first_is_new : (x : Item) (xs : List Item) → HasDistinctIds (x ∷ xs) → Contains xs x → ⊥
first_is_new x xs distinct (k, h, is) =
    let long : length (map (λ (y : Item). y.id) xs) ≡ length xs = length-map xs (λ (y : Item). y.id) in
    distinct-differ (map (λ (y : Item). y.id) (x ∷ xs)) (IsDistinct-from_items (x ∷ xs) distinct) 0 (suc k) 0
    (omega arith) (omega arith)
    (sym (get_or-map (λ (y : Item). y.id) xs k x 0 h ∙ ap (λ (y : Item). y.id) is))

permutation-from_members : (xs ys : List Item) → HasDistinctIds xs → HasDistinctIds ys
    → ((x : Item) → Contains xs x → Contains ys x) → ((y : Item) → Contains ys y → Contains xs y) → IsPermutation xs ys
permutation-from_members [] [] dx dy there back = IsPermutation-refl []
permutation-from_members [] (y ∷ ys) dx dy there back = absurd (Contains-none y (back y (0, omega arith, refl)))
permutation-from_members (x ∷ xs) ys dx dy there back =
    let (k, h, is) = there x (0, omega arith, refl) in
    let moved : IsPermutation ys (x ∷ remove ys k) = IsPermutation-remove ys k x h (sym is) in
    let d : HasDistinctIds (x ∷ remove ys k) = HasDistinctIds-permutation ys (x ∷ remove ys k) moved dy in
    let rest : IsPermutation xs (remove ys k) =
    permutation-from_members xs (remove ys k) (HasDistinctIds-tail x xs dx) (HasDistinctIds-tail x (remove ys k) d)
    (λ z in_xs. elim
    (Contains-cons_cases x (remove ys k) z
    (Contains-permutation ys (x ∷ remove ys k) z moved (there z (Contains-cons x xs z in_xs)))) [
      | inl same ↦ absurd (first_is_new x xs dx (subst (Contains xs) (sym same) in_xs))
      | inr other ↦ other
    ])
    (λ z in_ys. elim
    (Contains-cons_cases x xs z
    (back z (Contains-permutation (x ∷ remove ys k) ys z (IsPermutation-sym ys (x ∷ remove ys k) moved)
    (Contains-cons x (remove ys k) z in_ys)))) [
      | inl same ↦ absurd (first_is_new x (remove ys k) d (subst (Contains (remove ys k)) (sym same) in_ys))
      | inr other ↦ other
    ]) in
    IsPermutation-trans (x ∷ xs) (x ∷ remove ys k) ys (IsPermutation-cons x xs (remove ys k) rest)
    (IsPermutation-sym ys (x ∷ remove ys k) moved)

-- ---- the parts that a claim names

ids_of-parts : (parts : List (List Item))
    → ids_of (map (map (λ (x : Item). x.id)) parts) ≡ map (λ (x : Item). x.id) (all_of parts)
ids_of-parts [] = refl
ids_of-parts (part ∷ parts) =
    ap (λ l. map (λ (x : Item). x.id) part ++ l) (ids_of-parts parts)
    ∙ sym (map-append (λ (x : Item). x.id) part (all_of parts))

pub named_items : (items : List Item) (ids : List ℕ) → All (HasItem items) ids → (xs : List Item)
    × AreNamed items ids xs
named_items items [] known = ([], record { members = All-nil (Contains items); named = refl })
named_items items (id ∷ ids) known =
    let (k, x, h, is, same) = All-head (HasItem items) id ids known in
    let (xs, named) = named_items items ids (All-tail (HasItem items) id ids known) in (
      x ∷ xs,
      record {
        members = All-cons (Contains items) x xs (k, h, is) named.members;
        named = ap (λ n. n ∷ map (λ (y : Item). y.id) xs) same ∙ ap (λ l. id ∷ l) named.named;
      },
    )

record AreParts (items : List Item) (claim : List (List ℕ)) (parts : List (List Item)) : Type 0 where
  pub claimed : map (map (λ x. x.id)) parts ≡ claim
  pub members : All (Contains items) (all_of parts)

named_classes : (items : List Item) (claim : List (List ℕ)) → All (HasItem items) (ids_of claim)
    → (parts : List (List Item)) × AreParts items claim parts
named_classes items [] known = ([], record { claimed = refl; members = All-nil (Contains items) })
named_classes items (part ∷ claim) known =
    let (xs, named) = named_items items part (All-front (HasItem items) part (ids_of claim) known) in
    let (parts, are) = named_classes items claim (All-back (HasItem items) part (ids_of claim) known) in (
      xs ∷ parts,
      record {
        claimed = ap (λ l. l ∷ map (map (λ (x : Item). x.id)) parts) named.named ∙ ap (λ l. part ∷ l) are.claimed;
        members = All-append (Contains items) xs (all_of parts) named.members are.members;
      },
    )

-- ---- overlaps of a part, by its ids

apart-from_ids : (items part : List Item) → All (Contains items) part → IsDistinct (map (λ (x : Item). x.id) part)
    → HasNoOverlap items (map (λ (x : Item). x.id) part) → IsApart part
apart-from_ids items part members distinct none i j d less h shared =
    let long : length (map (λ (x : Item). x.id) part) ≡ length part = length-map part (λ (x : Item). x.id) in
    let hi : i < length part = omega arith in
    let named : AreNamed items (map (λ (x : Item). x.id) part) part = record { members = members; named = refl } in
    none (get_or part i d) (get_or part j d)
    (IsItemOf-from_named items (map (λ (x : Item). x.id) part) part named (get_or part i d)
    (Contains-get_or part i d hi))
    (IsItemOf-from_named items (map (λ (x : Item). x.id) part) part named (get_or part j d)
    (Contains-get_or part j d h))
    (λ same. distinct-differ (map (λ (x : Item). x.id) part) distinct i j 0 less (omega arith)
    (get_or-map (λ (x : Item). x.id) part i d 0 hi ∙ (same ∙ sym (get_or-map (λ (x : Item). x.id) part j d 0 h))))
    shared

apart-from_claim : (items : List Item) (parts : List (List Item)) → All (Contains items) (all_of parts)
    → IsDistinct (ids_of (map (map (λ (x : Item). x.id)) parts))
    → All (HasNoOverlap items) (map (map (λ (x : Item). x.id)) parts) → All IsApart parts
apart-from_claim items [] members distinct none = All-nil IsApart
apart-from_claim items (part ∷ parts) members distinct none =
    All-cons IsApart part parts
    (apart-from_ids items part (All-front (Contains items) part (all_of parts) members)
    (IsDistinct-append_left (map (λ (x : Item). x.id) part) (ids_of (map (map (λ (x : Item). x.id)) parts)) distinct)
    (All-head (HasNoOverlap items) (map (λ (x : Item). x.id) part) (map (map (λ (x : Item). x.id)) parts) none))
    (apart-from_claim items parts (All-back (Contains items) part (all_of parts) members)
    (IsDistinct-append_right (map (λ (x : Item). x.id) part) (ids_of (map (map (λ (x : Item). x.id)) parts)) distinct)
    (All-tail (HasNoOverlap items) (map (λ (x : Item). x.id) part) (map (map (λ (x : Item). x.id)) parts) none))

ids-from_apart : (items part : List Item) → IdsRise items → All (Contains items) part → IsApart part
    → HasNoOverlap items (map (λ (x : Item). x.id) part)
ids-from_apart items part rise members apart x y ofx ofy =
    let named : AreNamed items (map (λ (z : Item). z.id) part) part = record { members = members; named = refl } in
    no_overlap_apart part apart x y
    (named-from_IsItemOf items (map (λ (z : Item). z.id) part) part rise named x ofx)
    (named-from_IsItemOf items (map (λ (z : Item). z.id) part) part rise named y ofy)

claim-from_apart : (items : List Item) (parts : List (List Item)) → IdsRise items → All (Contains items) (all_of parts)
    → All IsApart parts → All (HasNoOverlap items) (map (map (λ (x : Item). x.id)) parts)
claim-from_apart items [] rise members apart = All-nil (HasNoOverlap items)
claim-from_apart items (part ∷ parts) rise members apart =
    All-cons (HasNoOverlap items) (map (λ (x : Item). x.id) part) (map (map (λ (x : Item). x.id)) parts)
    (ids-from_apart items part rise (All-front (Contains items) part (all_of parts) members)
    (All-head IsApart part parts apart))
    (claim-from_apart items parts rise (All-back (Contains items) part (all_of parts) members)
    (All-tail IsApart part parts apart))

filled_classes : (parts : List (List Item)) → All (λ part. 0 < length part) (map (map (λ (x : Item). x.id)) parts)
    → All (λ part. 0 < length part) parts
filled_classes [] filled = All-nil (λ part. 0 < length part)
filled_classes (part ∷ parts) filled =
    let first : 0 < length (map (λ (x : Item). x.id) part) =
    All-head (λ part. 0 < length part) (map (λ (x : Item). x.id) part)
    (map (map (λ (x : Item). x.id)) parts) filled in
    All-cons (λ part. 0 < length part) part parts (omega (arith, first, length-map part (λ (x : Item). x.id)))
    (filled_classes parts
    (All-tail (λ part. 0 < length part) (map (λ (x : Item). x.id) part)
    (map (map (λ (x : Item). x.id)) parts) filled))

filled_parts : (parts : List (List Item)) → All (λ part. 0 < length part) parts
    → All (λ part. 0 < length part) (map (map (λ (x : Item). x.id)) parts)
filled_parts parts filled =
    All-map (λ part. 0 < length part) (map (λ (x : Item). x.id)) parts
    (All-weaker (λ part. 0 < length part) (λ part. 0 < length (map (λ (x : Item). x.id) part))
    (λ part some. omega (arith, some, length-map part (λ (x : Item). x.id))) parts filled)

-- ---- both directions

pub IsCertified-from_passes : (items : List Item) (claim : List (List ℕ)) (certificate : Certificate) → IdsRise items
    → Passes items claim certificate → IsCertified items claim certificate
IsCertified-from_passes items claim certificate rise passes =
    let (parts, are) = named_classes items claim passes.known in
    let all : ids_of (map (map (λ (x : Item). x.id)) parts) ≡ map (λ (x : Item). x.id) (all_of parts) =
    ids_of-parts parts in
    let same : ids_of claim ≡ map (λ (x : Item). x.id) (all_of parts) = sym (ap ids_of are.claimed) ∙ all in
    let distinct : IsDistinct (map (λ (x : Item). x.id) (all_of parts)) = subst IsDistinct same passes.distinct in
    record {
      parts = parts;
      division = record {
        together = permutation-from_members items (all_of parts) (HasDistinctIds-from_rising items rise)
            (HasDistinctIds-from_ids (all_of parts) distinct)
            (λ x there.
            let claimed : Contains (map (λ (y : Item). y.id) (all_of parts)) x.id =
            subst (λ l. Contains l x.id) same
            (All-contains (λ x. Contains (ids_of claim) x.id) items x passes.complete there) in
            let (y, stands, is) = item_of_id (all_of parts) x.id claimed in
            subst (Contains (all_of parts))
            (same_item items rise y x
            (All-contains (Contains items) (all_of parts) y are.members stands) there is) stands)
            (λ y there. All-contains (Contains items) (all_of parts) y are.members there);
        filled = filled_classes parts (subst (All (λ part. 0 < length part)) (sym are.claimed) passes.filled);
        apart = apart-from_claim items parts are.members (subst IsDistinct (sym all) distinct)
            (subst (All (HasNoOverlap items)) (sym are.claimed) passes.apart);
      };
      claimed = are.claimed;
      counted = passes.counted;
      crowded = passes.crowded;
    }

pub Passes-from_certified : (items : List Item) (claim : List (List ℕ)) (certificate : Certificate) → IdsRise items
    → IsCertified items claim certificate → Passes items claim certificate
Passes-from_certified items claim certificate rise is =
    let same : map (λ (x : Item). x.id) (all_of is.parts) ≡ ids_of claim =
    sym (ids_of-parts is.parts) ∙ ap ids_of is.claimed in
    let members : All (Contains items) (all_of is.parts) =
    λ k d h. Contains-permutation (all_of is.parts) items (get_or (all_of is.parts) k d)
    (IsPermutation-sym items (all_of is.parts) is.division.together) (Contains-get_or (all_of is.parts) k d h) in
    record {
      counted = is.counted;
      filled = subst (All (λ part. 0 < length part)) is.claimed (filled_parts is.parts is.division.filled);
      known = subst (All (HasItem items)) same
          (All-map (HasItem items) (λ (x : Item). x.id) (all_of is.parts)
          (All-weaker (Contains items) (λ (x : Item). HasItem items x.id)
          (λ x there. (there.0, x, there.1, there.2, refl)) (all_of is.parts) members));
      distinct = subst IsDistinct same
          (IsDistinct-from_items (all_of is.parts)
          (HasDistinctIds-permutation items (all_of is.parts) is.division.together
          (HasDistinctIds-from_rising items rise)));
      complete = λ k d h. subst (λ l. Contains l (get_or items k d).id) same
          (Contains-id (all_of is.parts) (get_or items k d)
          (Contains-permutation items (all_of is.parts) (get_or items k d) is.division.together
          (Contains-get_or items k d h)));
      apart = subst (All (HasNoOverlap items)) is.claimed
          (claim-from_apart items is.parts rise members is.division.apart);
      crowded = is.crowded;
    }
