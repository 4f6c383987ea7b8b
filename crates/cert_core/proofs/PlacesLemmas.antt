-- Facts about indices imply facts about the ids there.
use Rattle.std.proofs.Common.{◌≡◌, ◌≢◌, ◌⊎◌, ℕ, zero, suc, ◌+◌, ◌-◌, ◌<◌, ◌≤◌, Bool, Some, true, false, List, [], ◌∷◌, ◌++◌, length, get_or, take, drop, set, arith, refl, sym, ap, ◌∙◌, subst, inl, inr}
use Rattle.std.specs.Prelude.{All, Contains, count_by, ◌==◌, map, slice_get}
use Rattle.std.proofs.lemmas.Bool.{eqb-true, cases_lt, eq-eqb}
use Rattle.std.proofs.lemmas.List.{get_or_default, map-append, get_or-set_same, get_or-set_other, length-set, get_or_read, take-append-drop, take-map, drop-map}
use Rattle.std.proofs.lemmas.List.Elements.{All-head, All-tail, All-map, All-push, All-weaker, All-contains, All-take, All-drop, Contains-append_left, Contains-append_right, Contains-push}
use Rattle.list_core.proofs.MadeLemmas.{Contains-map, Contains-map_source}
use Rattle.dip_core.specs.declared.item.Item.{Item}
use Rattle.dip_core.specs.Item.{IdsRise}
use Rattle.cert_core.specs.Claim.{ids_of}
use Rattle.cert_core.specs.Ids.{IsDistinct, IsTwice}
use Rattle.cert_core.specs.Places.{id_at, ArePlaces, AreMarks, IsFirstUnmarked}
use Rattle.cert_core.specs.Verdict.{HasItem, IsMissing}
use Rattle.cert_core.proofs.ClaimLemmas.{ids_of-part}
use Rattle.cert_core.proofs.IdsLemmas.{count-cons, IsDistinct-tail, IsDistinct-append_left, IsDistinct-append_right, id_at-get_or, item_at, id_at-rises, same_place}

-- ---- the ids at indices

HasItem-at : (items : List Item) (p : ℕ) → p < length items → HasItem items (id_at items p)
HasItem-at items p h = let (x, is, same) = item_at items p h in (p, x, h, is, sym same)

-- the index of an item with the id
pub place_of_item : (items : List Item) (id : ℕ) → HasItem items id → (p : ℕ) × (p < length items)
    × (id_at items p ≡ id)
place_of_item items id (p, x, h, is, same) = (p, h, id_at-get_or items p x h ∙ (ap (λ (z : Item). z.id) is ∙ same))

pub known-from_places : (items : List Item) (ids places : List ℕ) → ArePlaces items ids places → All (HasItem items) ids
known-from_places items ids places are =
    subst (All (HasItem items)) are.named
    (All-map (HasItem items) (id_at items) places
    (All-weaker (λ p. p < length items) (λ p. HasItem items (id_at items p)) (HasItem-at items) places are.within))

pub ArePlaces-nil : (items : List Item) → ArePlaces items [] []
ArePlaces-nil items = record { within = λ k d h. absurd (omega arith); named = refl }

pub ArePlaces-push : (items : List Item) (ids places : List ℕ) (id p : ℕ) → ArePlaces items ids places
    → p < length items → id_at items p ≡ id → ArePlaces items (ids ++ id ∷ []) (places ++ p ∷ [])
ArePlaces-push items ids places id p are h is = record {
  within = All-push (λ p. p < length items) places p are.within h;
  named = map-append (id_at items) places (p ∷ [])
      ∙ (ap (λ l. l ++ id_at items p ∷ []) are.named ∙ ap (λ n. ids ++ n ∷ []) is);
}

-- an id occurs as often as its index
count-at : (items : List Item) → IdsRise items → (p : ℕ) → p < length items → (qs : List ℕ)
    → All (λ q. q < length items) qs
    → count_by (λ id. id == id_at items p) (map (id_at items) qs) ≡ count_by (λ q. q == p) qs
count-at items rise p h [] within = refl
count-at items rise p h (q ∷ qs) within =
    let rest : count_by (λ id. id == id_at items p) (map (id_at items) qs) ≡ count_by (λ q. q == p) qs =
    count-at items rise p h qs (All-tail (λ q. q < length items) q qs within) in
    let first : q < length items = All-head (λ q. q < length items) q qs within in
    let one = count-cons (id_at items q) (id_at items p) (map (id_at items) qs) in
    let other = count-cons q p qs in
    let there : (id_at items q == id_at items p) ≡ true → (q == p) ≡ true =
    λ yes. subst (λ n. (q == n) ≡ true)
    (same_place items rise q p first h (eqb-true (id_at items q) (id_at items p) yes)) (eq-eqb q q refl) in
    let back : (q == p) ≡ true → (id_at items q == id_at items p) ≡ true =
    λ yes. subst (λ n. (id_at items q == id_at items n) ≡ true) (eqb-true q p yes)
    (eq-eqb (id_at items q) (id_at items q) refl) in
    grind arith

distinct-map : (items : List Item) → IdsRise items → (places : List ℕ) → All (λ p. p < length items) places
    → IsDistinct places → IsDistinct (map (id_at items) places)
distinct-map items rise [] within distinct i = omega arith
distinct-map items rise (p ∷ ps) within distinct i =
    let rest : count_by (λ id. id == i) (map (id_at items) ps) ≤ 1 =
    distinct-map items rise ps (All-tail (λ p. p < length items) p ps within) (IsDistinct-tail p ps distinct) i in
    let split = count-cons (id_at items p) i (map (id_at items) ps) in
    let first : p < length items = All-head (λ p. p < length items) p ps within in
    let here : (id_at items p == i) ≡ true → count_by (λ id. id == i) (map (id_at items) (p ∷ ps)) ≤ 1 =
    λ yes. subst (λ n. count_by (λ id. id == n) (map (id_at items) (p ∷ ps)) ≤ 1) (eqb-true (id_at items p) i yes)
    (let same = count-at items rise p first (p ∷ ps) within in
    let most : count_by (λ q. q == p) (p ∷ ps) ≤ 1 = distinct p in
    omega arith) in
    grind arith

pub IsDistinct-at : (items : List Item) (ids places : List ℕ) → IdsRise items → ArePlaces items ids places
    → IsDistinct places → IsDistinct ids
IsDistinct-at items ids places rise are distinct =
    subst IsDistinct are.named (distinct-map items rise places are.within distinct)

pub IsTwice-at : (items : List Item) (ids places : List ℕ) (p : ℕ) → IdsRise items → ArePlaces items ids places
    → IsTwice places p → IsTwice ids (id_at items p)
IsTwice-at items ids places p rise are twice = record {
  before = map (id_at items) twice.before;
  after = map (id_at items) twice.after;
  stands = sym are.named
      ∙ (ap (map (id_at items)) twice.stands ∙ map-append (id_at items) twice.before (p ∷ twice.after));
  again = Contains-map (id_at items) twice.before p twice.again;
  first = distinct-map items rise twice.before
      (front twice.before (p ∷ twice.after) (subst (All (λ q. q < length items)) twice.stands are.within)) twice.first;
}
  where
    front : (xs ys : List ℕ) → All (λ q. q < length items) (xs ++ ys) → All (λ q. q < length items) xs
    front [] ys all k d h = absurd (omega arith)
    front (x ∷ xs) ys all zero d h = all 0 d (omega arith)
    front (x ∷ xs) ys all (suc k) d h =
        front xs ys (All-tail (λ q. q < length items) x (xs ++ ys) all) k d (omega arith)

-- ---- marks

pub AreMarks-nil : (marks : List Bool) → All (λ mark. mark ≡ false) marks → AreMarks [] marks
AreMarks-nil marks none = record {
  marked = λ p h yes. let no : get_or marks p false ≡ false = none p false h in absurd (cc (yes, no));
  each = λ k d h. absurd (omega arith);
}

pub AreMarks-push : (places : List ℕ) (marks : List Bool) (p : ℕ) → AreMarks places marks → p < length marks
    → AreMarks (places ++ p ∷ []) (set marks p true)
AreMarks-push places marks p are h =
    let long : length (set marks p true) ≡ length marks = length-set marks p true in
    record {
      marked = λ q less yes. elim (place_cases q) [
        | inl same ↦ subst (Contains (places ++ p ∷ [])) (sym same) (Contains-push places p)
        | inr other ↦
            Contains-append_left places (p ∷ []) q
            (are.marked q (omega arith) (sym (get_or-set_other marks p q true false other) ∙ yes))
      ];
      each = All-push (λ q. (q < length (set marks p true)) × (get_or (set marks p true) q false ≡ true)) places p
          (All-weaker (λ q. (q < length marks) × (get_or marks q false ≡ true))
          (λ q. (q < length (set marks p true)) × (get_or (set marks p true) q false ≡ true))
          (λ q was. (let less : q < length marks = was.0 in omega arith, still q was.1)) places are.each)
          (omega arith, get_or-set_same marks p true false h);
    }
  where
    place_cases : (q : ℕ) → (q ≡ p) ⊎ (q ≢ p)
    place_cases q = elim (cases_lt q p) [
      | inl less ↦ inr (λ e. absurd (omega arith))
      | inr more ↦ elim (cases_lt p q) [ inl less ↦ inr (λ e. absurd (omega arith)) | inr most ↦ inl (omega arith) ]
    ]

    still : (q : ℕ) → get_or marks q false ≡ true → get_or (set marks p true) q false ≡ true
    still q was = elim (place_cases q) [
      | inl same ↦ ap (λ n. get_or (set marks p true) n false) same ∙ get_or-set_same marks p true false h
      | inr other ↦ get_or-set_other marks p q true false other ∙ was
    ]

-- the id at the first unmarked index is missing
pub IsMissing-at : (items : List Item) (ids places : List ℕ) (marks : List Bool) (p : ℕ) → IdsRise items
    → ArePlaces items ids places → AreMarks places marks → length marks ≡ length items → IsFirstUnmarked marks p
    → IsMissing items ids (id_at items p)
IsMissing-at items ids places marks p rise are marked long free =
    let within : p < length marks = free.within in
    let place : p < length items = omega arith in
    record {
      known = HasItem-at items p place;
      missing = λ there.
          let (q, stands, same) =
          Contains-map_source (id_at items) places (id_at items p)
          (subst (λ l. Contains l (id_at items p)) (sym are.named) there) in
          let q_in : q < length items = All-contains (λ q. q < length items) places q are.within stands in
          let q_marked =
          All-contains (λ q. (q < length marks) × (get_or marks q false ≡ true)) places q marked.each stands in
          let one : q ≡ p = same_place items rise q p q_in place same in
          let yes : get_or marks p false ≡ true = subst (λ n. get_or marks n false ≡ true) one q_marked.1 in
          let at : get_or marks p true ≡ get_or marks p false = get_or_default marks p true false within in
          let no : get_or marks p true ≡ false = free.unmarked in
          absurd (cc);
      least = λ other has below.
          let (q, q_in, is) = place_of_item items other has in
          let before : q < p = sooner q q_in (subst (λ n. n < id_at items p) (sym is) below) in
          subst (Contains ids) is
          (subst (λ l. Contains l (id_at items q)) are.named
          (Contains-map (id_at items) places q (marked.marked q (omega arith) (free.first q before))));
    }
  where
    sooner : (q : ℕ) → q < length items → id_at items q < id_at items p → q < p
    sooner q h below = elim (cases_lt p q) [
      | inl less ↦ let far : id_at items p < id_at items q = id_at-rises items rise p q less h in absurd (omega arith)
      | inr more ↦ elim (cases_lt q p) [
        | inl less ↦ less
        | inr most ↦ let e : q ≡ p =
            omega arith in let same : id_at items q ≡ id_at items p = ap (id_at items) e in absurd (omega arith)
      ]
    ]

-- if each index is marked, the claim has each item's id
pub complete-at : (items : List Item) (ids places : List ℕ) (marks : List Bool) → ArePlaces items ids places
    → AreMarks places marks → length marks ≡ length items → All (λ mark. mark ≡ true) marks
    → All (λ x. Contains ids x.id) items
complete-at items ids places marks are marked long all k d h =
    let there : Contains places k = marked.marked k (omega arith) (all k false (omega arith)) in
    subst (Contains ids) (id_at-get_or items k d h)
    (subst (λ l. Contains l (id_at items k)) are.named (Contains-map (id_at items) places k there))

pub marked_each : (places : List ℕ) (marks : List Bool) (p : ℕ) → AreMarks places marks → Contains places p
    → get_or marks p false ≡ true
marked_each places marks p are there =
    (All-contains (λ q. (q < length marks) × (get_or marks q false ≡ true)) places p are.each there).1

-- ---- neighbours

pub before_is : (xs : List Item) (n : ℕ) (x : Item) → 1 ≤ n → n < length xs → x ≡ get_or xs (n - 1) x → (d : Item)
    → get_or xs (n - 1) d ≡ x
before_is xs n x low h is d = sym (get_or_read xs (n - 1) x (omega arith) is d)

pub after_is : (xs : List Item) (n : ℕ) (x : Item) → 1 ≤ n → n < length xs → x ≡ get_or xs n x → (d : Item)
    → get_or xs (n - 1 + 1) d ≡ x
after_is xs n x low h is d =
    let e : n - 1 + 1 ≡ n = omega arith in
    ap (λ m. get_or xs m d) e ∙ sym (get_or_read xs n x h is d)

-- ---- a part's indices

pub ArePlaces-part : (items : List Item) (claim : List (List ℕ)) (places : List ℕ) (k : ℕ) (part : List ℕ) (start : ℕ)
    → ArePlaces items (ids_of claim) places → slice_get claim k ≡ Some part → start ≡ length (ids_of (take k claim))
    → ArePlaces items part (take (start + length part - start) (drop start places))
ArePlaces-part items claim places k part start are is at =
    let size : start + length part - start ≡ length part = omega arith in
    record {
      within = All-take (λ p. p < length items) (start + length part - start) (drop start places)
          (All-drop (λ p. p < length items) start places are.within);
      named = sym (take-map (id_at items) (start + length part - start) (drop start places))
          ∙ (ap (take (start + length part - start))
          (sym (drop-map (id_at items) start places) ∙ ap (drop start) are.named)
          ∙ (ap (λ n. take n (drop start (ids_of claim))) size
          ∙ (ap (λ n. take (length part) (drop n (ids_of claim))) at ∙ ids_of-part claim k part is)));
    }

pub IsDistinct-part : (claim : List (List ℕ)) (k : ℕ) (part : List ℕ) → IsDistinct (ids_of claim)
    → slice_get claim k ≡ Some part → IsDistinct part
IsDistinct-part claim k part distinct is =
    let later : IsDistinct (drop (length (ids_of (take k claim))) (ids_of claim)) =
    IsDistinct-append_right (take (length (ids_of (take k claim))) (ids_of claim))
    (drop (length (ids_of (take k claim))) (ids_of claim))
    (subst IsDistinct (sym (take-append-drop (length (ids_of (take k claim))) (ids_of claim))) distinct) in
    subst IsDistinct (ids_of-part claim k part is)
    (IsDistinct-append_left (take (length part) (drop (length (ids_of (take k claim))) (ids_of claim)))
    (drop (length part) (drop (length (ids_of (take k claim))) (ids_of claim)))
    (subst IsDistinct
    (sym (take-append-drop (length part) (drop (length (ids_of (take k claim))) (ids_of claim)))) later))

pub ArePlaces-same : (items : List Item) (ids others places at : List ℕ) → ids ≡ others → at ≡ places
    → ArePlaces items ids places → ArePlaces items others at
ArePlaces-same items ids others places at same is are =
    subst (ArePlaces items others) (sym is) (subst (λ l. ArePlaces items l places) same are)

-- a repeated index is one of the indices
pub IsTwice-within : (P : ℕ → Type 0) (places : List ℕ) (p : ℕ) → All P places → IsTwice places p → P p
IsTwice-within P places p all twice =
    All-contains P places p all
    (subst (λ l. Contains l p) (sym twice.stands)
    (Contains-append_right twice.before (p ∷ twice.after) p (0, omega arith, refl)))
