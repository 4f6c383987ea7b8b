-- A part's items, sorted, and their first neighbours that overlap.
use Rattle.std.proofs.Common.{◌≡◌, ◌≢◌, ℕ, zero, suc, ◌+◌, ◌<◌, ◌≤◌, ℤ, ◌≤ℤ◌, true, false, List, [], ◌∷◌, length, get_or, arith, refl, sym, ap, ◌∙◌, subst, inl, inr}
use Rattle.std.specs.Prelude.{Contains, map, count_by, ◌==◌, cond, IsPermutation, IsSorted, Option, Some, None, MatchOption}
use Rattle.std.specs.List.{AllAdjacentBelow}
use Rattle.std.specs.Ordering.{is_lt}
use Rattle.std.proofs.lemmas.Bool.{cases_lt}
use Rattle.std.proofs.lemmas.Int.{ints, by_lt_z}
use Rattle.std.proofs.lemmas.List.{get_or-map, get_or_default, length-map}
use Rattle.std.proofs.lemmas.List.Elements.{All-contains}
use Rattle.std.proofs.lemmas.List.Sorted.{IsPermutation-map, IsPermutation-sym, Contains-permutation, sum_by-IsPermutation, sorted_far, ranks_by}
use Rattle.period_core.specs.declared.period.Period.{Period}
use Rattle.period_core.specs.Period.{Overlap}
use Rattle.dip_core.specs.declared.item.Item.{Item}
use Rattle.dip_core.specs.Item.{IdsRise, IsChain, IsApart, IsBefore, IsBelow, item_cmp}
use Rattle.dip_core.proofs.ChainLemmas.{IsApart-from_chain}
use Rattle.dip_core.proofs.OrderLemmas.{item_total, before-from_not_below, not_before_back, not_before_itself, from_le}
use Rattle.cert_core.specs.Ids.{IsDistinct}
use Rattle.cert_core.specs.Places.{AreNamed, IsFirstPair}
use Rattle.cert_core.specs.Verdict.{IsItemOf, HasNoOverlap, IsJustBefore, IsFirstOverlap}
use Rattle.cert_core.proofs.IdsLemmas.{distinct-differ, same_item, item_at}

-- the ids of contained items
pub Contains-id : (xs : List Item) (x : Item) → Contains xs x → Contains (map (λ y. y.id) xs) x.id
Contains-id xs x (k, h, is) =
    let long : length (map (λ (y : Item). y.id) xs) ≡ length xs = length-map xs (λ (y : Item). y.id) in
    (k, omega arith, get_or-map (λ (y : Item). y.id) xs k x x.id h ∙ ap (λ (y : Item). y.id) is)

-- the item with an id
pub item_of_id : (xs : List Item) (i : ℕ) → Contains (map (λ y. y.id) xs) i → (x : Item) × Contains xs x × (x.id ≡ i)
item_of_id [] i (k, h, is) = absurd (omega arith)
item_of_id (x ∷ xs) i (zero, h, is) = (x, (0, omega arith, refl), is)
item_of_id (x ∷ xs) i (suc k, h, is) =
    let (y, (m, less, there), same) = item_of_id xs i (k, omega arith, is) in (y, (suc m, omega arith, there), same)

-- the items with a part's ids are the part's items
pub IsItemOf-from_named : (items : List Item) (part : List ℕ) (taken : List Item) → AreNamed items part taken
    → (x : Item) → Contains taken x → IsItemOf items part x
IsItemOf-from_named items part taken named x there = (
  All-contains (Contains items) taken x named.members there,
  subst (λ ids. Contains ids x.id) named.named
      (Contains-id taken x there),
)

pub named-from_IsItemOf : (items : List Item) (part : List ℕ) (taken : List Item) → IdsRise items
    → AreNamed items part taken → (x : Item) → IsItemOf items part x → Contains taken x
named-from_IsItemOf items part taken rise named x of =
    let (y, there, same) = item_of_id taken x.id (subst (λ ids. Contains ids x.id) (sym named.named) of.1) in
    subst (Contains taken)
    (same_item items rise y x (All-contains (Contains items) taken y named.members there) of.0 same) there

-- The facts about a part's items once they are sorted.
pub record AreSorted (items : List Item) (part : List ℕ) (xs : List Item) : Type 0 where
  pub all : (x : Item) → IsItemOf items part x → Contains xs x
  pub only : (x : Item) → Contains xs x → IsItemOf items part x
  pub sorted : IsSorted item_cmp xs
  pub distinct : IsDistinct (map (λ x. x.id) xs)

pub AreSorted-from_sort : (items : List Item) (part : List ℕ) (taken xs : List Item) → IdsRise items
    → AreNamed items part taken → IsDistinct part → IsPermutation taken xs → IsSorted item_cmp xs
    → AreSorted items part xs
AreSorted-from_sort items part taken xs rise named distinct moved sorted = record {
  all = λ x of. Contains-permutation taken xs x moved (named-from_IsItemOf items part taken rise named x of);
  only = λ x there. IsItemOf-from_named items part taken named x
      (Contains-permutation xs taken x (IsPermutation-sym taken xs moved) there);
  sorted = sorted;
  distinct = λ i.
      let same : count_by (λ id. id == i) (map (λ x. x.id) xs) ≡ count_by (λ id. id == i) (map (λ x. x.id) taken) =
      sum_by-IsPermutation (λ id. cond (id == i) 1 0) (map (λ x. x.id) taken) (map (λ x. x.id) xs)
      (IsPermutation-map (λ x. x.id) taken xs moved) in
      let most : count_by (λ id. id == i) (map (λ x. x.id) taken) ≤ 1 = subst IsDistinct (sym named.named) distinct i in
      omega arith;
}

ids_differ : (items : List Item) (part : List ℕ) (xs : List Item) → AreSorted items part xs → (i j : ℕ) (d : Item)
    → i < j → j < length xs → (get_or xs i d).id ≢ (get_or xs j d).id
ids_differ items part xs are i j d less h same =
    let long : length (map (λ (y : Item). y.id) xs) ≡ length xs = length-map xs (λ (y : Item). y.id) in
    distinct-differ (map (λ (y : Item). y.id) xs) are.distinct i j 0 less (omega arith)
    (get_or-map (λ (y : Item). y.id) xs i d 0 (omega arith) ∙ (same ∙ sym (get_or-map (λ (y : Item). y.id) xs j d 0 h)))

-- a later item isn't below an earlier one
not_below_later : (xs : List Item) → IsSorted item_cmp xs → (i j : ℕ) (d : Item) → i < j → j < length xs
    → IsBelow (get_or xs j d) (get_or xs i d) → ⊥
not_below_later xs sorted i j d less h below =
    let far : is_lt (item_cmp (get_or xs j d) (get_or xs i d)) ≡ false =
    sorted_far (λ x y. is_lt (item_cmp x y)) (ranks_by item_total (λ x. x)) xs sorted i j d (omega arith) h in
    let yes : is_lt (item_cmp (get_or xs j d) (get_or xs i d)) ≡ true = ap is_lt below in
    cc

-- items are before each other in the order of their indices
before_at : (items : List Item) (part : List ℕ) (xs : List Item) → AreSorted items part xs → (i j : ℕ) (d : Item)
    → i < j → j < length xs → IsBefore (get_or xs i d) (get_or xs j d)
before_at items part xs are i j d less h =
    before-from_not_below (get_or xs i d) (get_or xs j d) (not_below_later xs are.sorted i j d less h)
    (ids_differ items part xs are i j d less h)

place_before : (items : List Item) (part : List ℕ) (xs : List Item) → AreSorted items part xs → (i j : ℕ) (d : Item)
    → i < length xs → j < length xs → IsBefore (get_or xs i d) (get_or xs j d) → i < j
place_before items part xs are i j d hi hj before = elim (cases_lt i j) [
  | inl less ↦ less
  | inr more ↦ elim (cases_lt j i) [
    | inl less ↦
        absurd (not_before_back (get_or xs i d) (get_or xs j d) before (before_at items part xs are j i d less hi))
    | inr most ↦
        let same : i ≡ j = omega arith in
        absurd (not_before_itself (get_or xs j d) (subst (λ n. IsBefore (get_or xs n d) (get_or xs j d)) same before))
  ]
]

-- the item at an index, whatever the default
at_place : (xs : List Item) (k : ℕ) (x d : Item) → k < length xs → get_or xs k x ≡ x → get_or xs k d ≡ x
at_place xs k x d h is = get_or_default xs k d x h ∙ is

place_before_of : (items : List Item) (part : List ℕ) (xs : List Item) → AreSorted items part xs
    → (i j : ℕ) (x y : Item) → i < length xs → j < length xs → get_or xs i x ≡ x → get_or xs j y ≡ y → IsBefore x y
    → i < j
place_before_of items part xs are i j x y hi hj ix jy before =
    place_before items part xs are i j x hi hj
    (subst (λ z. IsBefore z (get_or xs j x)) (sym ix)
    (subst (λ z. IsBefore x z) (sym (at_place xs j y x hj jy)) before))

before_of : (items : List Item) (part : List ℕ) (xs : List Item) → AreSorted items part xs → (i j : ℕ) (x y : Item)
    → i < length xs → j < length xs → get_or xs i x ≡ x → get_or xs j y ≡ y → i < j → IsBefore x y
before_of items part xs are i j x y hi hj ix jy less =
    subst (λ z. IsBefore z y) ix
    (subst (λ z. IsBefore (get_or xs i x) z) (at_place xs j y x hj jy) (before_at items part xs are i j x less hj))

-- an item and the one just before it are neighbours
neighbours_of : (items : List Item) (part : List ℕ) (xs : List Item) → AreSorted items part xs → (i j : ℕ) (v w : Item)
    → i < length xs → j < length xs → get_or xs i v ≡ v → get_or xs j w ≡ w → IsJustBefore items part v w → i + 1 ≡ j
neighbours_of items part xs are i j v w hi hj iv jw just =
    let less : i < j = place_before_of items part xs are i j v w hi hj iv jw just.before in
    elim (cases_lt (i + 1) j) [
      | inl far ↦
          let h : i + 1 < length xs = omega arith in
          let (z, is, _) = item_at xs (i + 1) h in
          absurd (just.between z (are.only z (i + 1, h, is))
          (before_of items part xs are i (i + 1) v z hi h iv is (omega arith))
          (before_of items part xs are (i + 1) j z w h hj is jw far))
      | inr near ↦ omega arith
    ]

pub IsFirstOverlap-from_pair : (items : List Item) (part : List ℕ) (xs : List Item) (a b : ℕ) → AreSorted items part xs
    → IsFirstPair xs a b → IsFirstOverlap items part a b
IsFirstOverlap-from_pair items part xs a b are pair =
    let h : pair.place + 1 < length xs = pair.within in
    let hx : pair.place < length xs = omega arith in
    let (x, ix, _) = item_at xs pair.place hx in
    let (y, iy, _) = item_at xs (pair.place + 1) h in
    record {
      x = x;
      y = y;
      ids = (ap (λ (z : Item). z.id) (sym ix) ∙ (pair.ids x).0, ap (λ (z : Item). z.id) (sym iy) ∙ (pair.ids y).1);
      neighbours = record {
        one = are.only x (pair.place, hx, ix);
        other = are.only y (pair.place + 1, h, iy);
        before = before_of items part xs are pair.place (pair.place + 1) x y hx h ix iy (omega arith);
        between = λ z of xz zy.
            let (k, hk, iz) = are.all z of in
            let after : pair.place < k = place_before_of items part xs are pair.place k x z hx hk ix iz xz in
            let under : k < pair.place + 1 = place_before_of items part xs are k (pair.place + 1) z y hk h iz iy zy in
            absurd (omega arith);
      };
      overlap = subst (λ (z : Item). Overlap z.period y.period) ix
          (subst (λ (z : Item). Overlap (get_or xs pair.place x).period z.period)
          (at_place xs (pair.place + 1) y x h iy) (pair.overlap x));
      first = λ v w just before shared.
          let (i, hi, iv) = are.all v just.one in
          let (j, hj, jw) = are.all w just.other in
          let next : i + 1 ≡ j = neighbours_of items part xs are i j v w hi hj iv jw just in
          let sooner : j < pair.place + 1 =
          place_before_of items part xs are j (pair.place + 1) w y hj h jw iy before in
          pair.first i v (omega arith)
          (subst (λ (z : Item). Overlap z.period (get_or xs (i + 1) v).period) (sym iv)
          (subst (λ n. Overlap v.period (get_or xs n v).period) (sym next)
          (subst (λ (z : Item). Overlap v.period z.period) (sym (at_place xs j w v hj jw)) shared)));
    }

-- ---- no neighbours overlap

apart_ends : (x y : Item) → x.period.from ≤ℤ y.period.from → (Overlap x.period y.period → ⊥)
    → x.period.to ≤ℤ y.period.from
apart_ends x y starts none =
    by_lt_z y.period.from x.period.to
    (λ less. absurd (none (y.period.from, (starts, less), (same_le y.period.from, y.period.ordered))))
    (λ more. more)
  where
    same_le : (t : ℤ) → t ≤ℤ t
    same_le t = omega (arith, ints)

IsChain-from_pairs : (xs : List Item) → IsSorted item_cmp xs
    → AllAdjacentBelow (λ x y. Overlap x.period y.period → ⊥) xs (length xs) → IsChain xs
IsChain-from_pairs xs sorted none k d h =
    apart_ends (get_or xs k d) (get_or xs (k + 1) d)
    (from_le (get_or xs k d) (get_or xs (k + 1) d) (not_below_later xs sorted k (k + 1) d (omega arith) h))
    (none k d h)

Overlap-sym : (p q : Period) → Overlap p q → Overlap q p
Overlap-sym p q (t, one, other) = (t, other, one)

-- items with different ids don't overlap if no two items of the list do
pub no_overlap_apart : (xs : List Item) → IsApart xs → (x y : Item) → Contains xs x → Contains xs y → x.id ≢ y.id
    → Overlap x.period y.period → ⊥
no_overlap_apart xs apart x y (i, hi, ix) (j, hj, jy) other shared = elim (cases_lt i j) [
  | inl less ↦
      apart i j x less hj
      (subst (λ (z : Item). Overlap z.period (get_or xs j x).period) (sym ix)
      (subst (λ (z : Item). Overlap x.period z.period) (sym (at_place xs j y x hj jy)) shared))
  | inr more ↦ elim (cases_lt j i) [
    | inl less ↦
        apart j i y less hi
        (subst (λ (z : Item). Overlap z.period (get_or xs i y).period) (sym jy)
        (subst (λ (z : Item). Overlap y.period z.period) (sym (at_place xs i x y hi ix))
        (Overlap-sym x.period y.period shared)))
    | inr most ↦
        let same : i ≡ j = omega arith in
        absurd (other (ap (λ (z : Item). z.id) (sym ix ∙ (ap (λ n. get_or xs n x) same ∙ at_place xs j y x hj jy))))
  ]
]

pub HasNoOverlap-from_pairs : (items : List Item) (part : List ℕ) (xs : List Item) → AreSorted items part xs
    → AllAdjacentBelow (λ x y. Overlap x.period y.period → ⊥) xs (length xs) → HasNoOverlap items part
HasNoOverlap-from_pairs items part xs are none x y ofx ofy =
    no_overlap_apart xs (IsApart-from_chain xs (IsChain-from_pairs xs are.sorted none)) x y (are.all x ofx)
    (are.all y ofy)

pub overlap-from_sorted : (items : List Item) (part : List ℕ) (xs : List Item) (found : Option (ℕ × ℕ))
    → AreSorted items part xs
    → MatchOption found (AllAdjacentBelow (λ x y. Overlap x.period y.period → ⊥) xs (length xs))
    (λ p. IsFirstPair xs p.0 p.1)
    → MatchOption found (HasNoOverlap items part) (λ p. IsFirstOverlap items part p.0 p.1)
overlap-from_sorted items part xs None are none = HasNoOverlap-from_pairs items part xs are none
overlap-from_sorted items part xs (Some p) are pair = IsFirstOverlap-from_pair items part xs p.0 p.1 are pair
