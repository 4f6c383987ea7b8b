-- Items have at most one placed division. By induction in placing order: the parts of the items before an item
-- determine the part of that item.
use Rattle.std.proofs.Common.{◌≡◌, ℕ, zero, suc, ◌+◌, ◌<◌, ◌≤◌, ℤ, ◌≤ℤ◌, ◌<ℤ◌, Bool, true, false, cond, List, [], ◌∷◌, length, get_or, arith, refl, sym, ap, ◌∙◌, inl, inr, subst}
use Rattle.std.specs.Prelude.{All, AllPairs, Option, Some, None, Any, Contains, count_by}
use Rattle.std.specs.declared.cmp.Ordering.{Ordering}
use Rattle.std.specs.declared.cmp.Ordering.TheVariants.{Less, Equal, Greater}
use Rattle.std.specs.Ordering.{is_lt}
use Rattle.std.proofs.lemmas.Bool.{both_ways, cases_Bool, cases_lt, cases_order, true≢false}
use Rattle.std.proofs.lemmas.Cmp.{tied_itself}
use Rattle.std.proofs.lemmas.Int.{ints, by_lt_z}
use Rattle.std.proofs.lemmas.List.{get_or_default, same_lists}
use Rattle.std.proofs.lemmas.List.Elements.{All-contains, All-cons, All-get_or, All-nil, All-weaker, Contains-append_cases, Contains-get_or}
use Rattle.std.proofs.lemmas.List.Sums.{sum_by-cons}
use Rattle.std.proofs.lemmas.List.Sorted.{Contains-permutation, IsPermutation-sym}
use Rattle.period_core.specs.Period.{Overlap}
use Rattle.period_core.proofs.PeriodLemmas.{Overlap-from_ends}
use Rattle.list_core.proofs.RisingLemmas.{Contains-cons, Contains-head, Contains-none, rising_is_one}
use Rattle.dip_core.specs.declared.item.Item.{Item}
use Rattle.dip_core.specs.Item.{place_cmp, IsApart, IsBefore, IsBelow, IsRising}
use Rattle.dip_core.specs.Division.{all_of, part_at, IsDip, IsDivision, IsFirstOf, IsFree, IsInstant, IsInstantOf, IsLatestEnd, IsPlaced, LiesInBestFree, OpensPart}
use Rattle.dip_core.proofs.AddedLemmas.{part_at-past}
use Rattle.dip_core.proofs.OrderLemmas.{from_le, not_before_itself, place_total}
use Rattle.dip_core.proofs.StepLemmas.{contains-all_of}

-- ---- the number of items before one

-- `x` comes before `y` (a boolean)
abbrev is_before : Item → Item → Bool
is_before x y = is_lt (place_cmp x y)

-- the number of items before `x`
abbrev rank : List Item → Item → ℕ
rank items x = count_by (λ y. is_before y x) items

pub less-from_test : (r : Ordering) → is_lt r ≡ true → r ≡ Less
less-from_test Less e = refl
less-from_test Equal e = absurd (cc e)
less-from_test Greater e = absurd (cc e)

before-from_test : (x y : Item) → is_before x y ≡ true → IsBefore x y
before-from_test x y h = less-from_test (place_cmp x y) h

before-trans : (x y z : Item) → IsBefore x y → IsBefore y z → IsBefore x z
before-trans x y z = place_total.trans x y z

rank-cons : (x : Item) (items : List Item) (y : Item) → rank (x ∷ items) y ≡ cond (is_before x y) 1 0 + rank items y
rank-cons x items y = sum_by-cons (λ z. cond (is_before z y) 1 0) x items

le_more : (a b : Bool) (m n : ℕ) → (a ≡ true → b ≡ true) → m ≤ n → cond a 1 0 + m ≤ cond b 1 0 + n
le_more true true m n follows le = omega arith
le_more true false m n follows le = absurd (cc (follows refl))
le_more false true m n follows le = omega arith
le_more false false m n follows le = omega arith

lt_more : (a b : Bool) (m n : ℕ) → (a ≡ true → b ≡ true) → m < n → cond a 1 0 + m < cond b 1 0 + n
lt_more true true m n follows lt = omega arith
lt_more true false m n follows lt = absurd (cc (follows refl))
lt_more false true m n follows lt = omega arith
lt_more false false m n follows lt = omega arith

lt_here : (a b : Bool) (m n : ℕ) → a ≡ false → b ≡ true → m ≤ n → cond a 1 0 + m < cond b 1 0 + n
lt_here true b m n fails holds le = absurd (cc fails)
lt_here false true m n fails holds le = omega arith
lt_here false false m n fails holds le = absurd (cc holds)

test_follows : (x y z : Item) → IsBefore y z → is_before x y ≡ true → is_before x z ≡ true
test_follows x y z before holds = ap is_lt (before-trans x y z (before-from_test x y holds) before)

rank-le : (items : List Item) (y x : Item) → IsBefore y x → rank items y ≤ rank items x
rank-le [] y x before = omega arith
rank-le (z ∷ items) y x before =
    let more = le_more (is_before z y) (is_before z x) (rank items y) (rank items x) (test_follows z y x before)
    (rank-le items y x before) in
    omega (arith, more, rank-cons z items y, rank-cons z items x)

-- if an item comes before another one, fewer items come before it
rank-lt : (items : List Item) (y x : Item) → IsBefore y x → Contains items y → rank items y < rank items x
rank-lt [] y x before member = absurd (Contains-none y member)
rank-lt (z ∷ items) y x before (zero, h, e) =
    let not_itself : is_before z y ≡ false = ap (λ w. is_before w y) e ∙ ap is_lt (tied_itself place_total y) in
    let earlier : is_before z x ≡ true = ap (λ w. is_before w x) e ∙ ap is_lt before in
    let more = lt_here (is_before z y) (is_before z x) (rank items y) (rank items x) not_itself earlier
    (rank-le items y x before) in
    omega (arith, more, rank-cons z items y, rank-cons z items x)
rank-lt (z ∷ items) y x before (suc k, h, e) =
    let more = lt_more (is_before z y) (is_before z x) (rank items y) (rank items x) (test_follows z y x before)
    (rank-lt items y x before (k, omega arith, e)) in
    omega (arith, more, rank-cons z items y, rank-cons z items x)

-- ---- the conditions on a part depend only on its items before x

-- each item of one part that comes before `x` is an item of the other
abbrev EarlierIn : List Item → List Item → Item → Type 0
EarlierIn part other x = (y : Item) → IsBefore y x → Contains part y → Contains other y

some_earlier : (P : Item → Type 0) (part other : List Item) (x : Item) → EarlierIn part other x
    → ((y : Item) → P y → IsBefore y x) → Any P part → Any P other
some_earlier P part other x there before (k, y, h, e, p) =
    let (j, within, same) = there y (before y p) (k, h, e) in
    (j, y, within, same, p)

all_earlier : (P : Item → Type 0) (part other : List Item) (x : Item) → EarlierIn other part x
    → All (λ y. IsBefore y x → P y) part → All (λ y. IsBefore y x → P y) other
all_earlier P part other x back all k d h before =
    All-contains (λ y. IsBefore y x → P y) part (get_or other k d) all
    (back (get_or other k d) before (Contains-get_or other k d h)) before

module _ (part other : List Item) (x : Item) (there : EarlierIn part other x) (back : EarlierIn other part x) where
  free_in : IsFree part x → IsFree other x
  free_in free = (
    some_earlier (λ y. IsBefore y x) part other x there (λ y before. before) free.0,
    all_earlier (λ y. y.period.to ≤ℤ x.period.from) part other x back free.1,
  )

  latest_in : (e : ℤ) → IsLatestEnd part x e → IsLatestEnd other x e
  latest_in e latest = (
    some_earlier (λ y. IsBefore y x × (y.period.to ≡ e)) part other x there (λ y both. both.0) latest.0,
    all_earlier (λ y. y.period.to ≤ℤ e) part other x back latest.1,
  )

-- ---- the parts of the items before x determine the part of x

-- each part's items before `x` are in the other division's part with the same number
abbrev EarlierAgree : List (List Item) → List (List Item) → Item → Type 0
EarlierAgree one other x = (k : ℕ) → EarlierIn (part_at one k) (part_at other k) x

-- a part with an item exists
is_part : (parts : List (List Item)) (k : ℕ) (y : Item) → Contains (part_at parts k) y → k < length parts
is_part parts k y member = elim (cases_lt k (length parts)) [
  | inl within ↦ within
  | inr past ↦ absurd (Contains-none y (subst (λ part. Contains part y) (part_at-past parts k past) member))
]

free_is_part : (parts : List (List Item)) (k : ℕ) (x : Item) → IsFree (part_at parts k) x → k < length parts
free_is_part parts k x free = let (i, y, h, e, before) = free.0 in is_part parts k y (i, h, e)

module _ (one other : List (List Item)) (x : Item) (there : EarlierAgree one other x)
    (back : EarlierAgree other one x) where
  -- if `x` is in the best free part of both divisions, the part numbers are equal
  both_best : (k m : ℕ) → LiesInBestFree one k x → LiesInBestFree other m x → k ≡ m
  both_best k m best best' =
      let free_there : IsFree (part_at other k) x =
      free_in (part_at one k) (part_at other k) x (there k) (back k) best.free in
      let free_here : IsFree (part_at one m) x =
      free_in (part_at other m) (part_at one m) x (back m) (there m) best'.free in
      let latest_there : IsLatestEnd (part_at other k) x best.end =
      latest_in (part_at one k) (part_at other k) x (there k) (back k) best.end best.latest in
      let latest_here : IsLatestEnd (part_at one m) x best'.end =
      latest_in (part_at other m) (part_at one m) x (back m) (there m) best'.end best'.latest in
      elim (best.best m best'.end (free_is_part one m x free_here) free_here latest_here) [
        | inl sooner ↦ elim (best'.best k best.end (free_is_part other k x free_there) free_there latest_there) [
          | inl later ↦ absurd (omega (arith, ints, sooner, later))
          | inr same ↦ let e : best'.end ≡ best.end = same.0 in absurd (omega (arith, ints, sooner, e))
        ]
        | inr tied ↦ elim (best'.best k best.end (free_is_part other k x free_there) free_there latest_there) [
          | inl later ↦ let e : best.end ≡ best'.end = tied.0 in absurd (omega (arith, ints, later, e))
          | inr same ↦ let low : k ≤ m = tied.1 in let high : m ≤ k = same.1 in omega (arith, low, high)
        ]
      ]

  -- `x` doesn't open a part of one division if a part of the other is free
  best_or_opens : (k m : ℕ) → LiesInBestFree one k x → OpensPart other m x → ⊥
  best_or_opens k m best opens =
      let free_there : IsFree (part_at other k) x =
      free_in (part_at one k) (part_at other k) x (there k) (back k) best.free in
      opens.none k (free_is_part other k x free_there) free_there

-- a non-empty part has a first item
first_item : (part : List Item) → 0 < length part → (x : Item) × IsFirstOf part x
first_item [] some = absurd (omega arith)
first_item (x ∷ []) some = (
  x,
  (
    Contains-head x [],
    All-cons (λ y. IsBefore y x → ⊥) x [] (not_before_itself x)
        (All-nil (λ y. IsBefore y x → ⊥)),
  ),
)
first_item (x ∷ (y ∷ part)) some =
    let (z, first) = first_item (y ∷ part) (omega arith) in
    elim (cases_Bool (is_before x z)) [
      | inl holds ↦ (
        x,
        (
          Contains-head x (y ∷ part),
          All-cons (λ w. IsBefore w x → ⊥) x (y ∷ part) (not_before_itself x)
              (All-weaker (λ w. IsBefore w z → ⊥) (λ w. IsBefore w x → ⊥)
              (λ w never sooner. never (before-trans w x z sooner (before-from_test x z holds)))
              (y ∷ part) first.1),
        ),
      )
      | inr fails ↦ (
        z,
        (
          Contains-cons x (y ∷ part) z first.0,
          All-cons (λ w. IsBefore w z → ⊥) x (y ∷ part)
              (λ sooner. both_ways (is_before x z) fails (ap is_lt sooner)) first.1,
        ),
      )
    ]

-- `x` doesn't open part `k` of one division and a higher part of the other, because the other's part `k` has an item
-- before `x`
opens_sooner : (one other : List (List Item)) (x : Item) → EarlierAgree other one x → IsPlaced other
    → All (λ part. 0 < length part) other
    → (k m : ℕ) → OpensPart one k x → OpensPart other m x → k < m → m < length other → ⊥
opens_sooner one other x back placed filled k m opens opens' less within =
    let (z, first) =
    first_item (part_at other k) (All-get_or (λ part. 0 < length part) other k [] (omega arith) filled) in
    let before : IsBefore z x = placed.rise k m z x less within first opens'.opens in
    All-contains (λ y. IsBefore y x → ⊥) (part_at one k) z opens.opens.1 (back k z before first.0) before

-- in both divisions `x` is in the part with the same number
one_part : (one other : List (List Item)) (x : Item) → EarlierAgree one other x → EarlierAgree other one x
    → IsPlaced one → IsPlaced other
    → All (λ part. 0 < length part) one → All (λ part. 0 < length part) other
    → (k m : ℕ) → Contains (part_at one k) x → Contains (part_at other m) x → k ≡ m
one_part one other x there back placed placed' filled filled' k m member member' =
    let here : k < length one = is_part one k x member in
    let here' : m < length other = is_part other m x member' in
    elim (placed.each k x here member) [
      | inl best ↦ elim (placed'.each m x here' member') [
        | inl best' ↦ both_best one other x there back k m best best'
        | inr opens' ↦ absurd (best_or_opens one other x there back k m best opens')
      ]
      | inr opens ↦ elim (placed'.each m x here' member') [
        | inl best' ↦ absurd (best_or_opens other one x back there m k best' opens)
        | inr opens' ↦ elim (cases_order k m) [
          | inl same ↦ same
          | inr (inl less) ↦ absurd (opens_sooner one other x back placed' filled' k m opens opens' less here')
          | inr (inr more) ↦ absurd (opens_sooner other one x there placed filled m k opens' opens more here)
        ]
      ]
    ]

-- ---- all items are in parts with the same numbers

part_with : (parts : List (List Item)) (x : Item) → Contains (all_of parts) x → (k : ℕ) × Contains (part_at parts k) x
part_with [] x member = absurd (Contains-none x member)
part_with (part ∷ parts) x member = elim (Contains-append_cases part (all_of parts) x member) [
  | inl here ↦ (zero, here)
  | inr later ↦ let (k, there) = part_with parts x later in (suc k, there)
]

-- an item of one division is in some part of the other
in_other : (items : List Item) (one other : List (List Item)) (k : ℕ) (x : Item) → IsDivision items one
    → IsDivision items other → Contains (part_at one k) x → (m : ℕ) × Contains (part_at other m) x
in_other items one other k x division division' member =
    part_with other x
    (Contains-permutation items (all_of other) x division'.together
    (Contains-permutation (all_of one) items x (IsPermutation-sym items (all_of one) division.together)
    (contains-all_of one k x member)))

-- if `x` is in part `k` of one division, it is in part `k` of the other
abbrev Agree : List (List Item) → List (List Item) → Item → Type 0
Agree one other x = (k : ℕ) → Contains (part_at one k) x → Contains (part_at other k) x

item_of : (items : List Item) (parts : List (List Item)) (k : ℕ) (x : Item) → IsDivision items parts
    → Contains (part_at parts k) x → Contains items x
item_of items parts k x division member =
    Contains-permutation (all_of parts) items x (IsPermutation-sym items (all_of parts) division.together)
    (contains-all_of parts k x member)

module _ (items : List Item) (one other : List (List Item)) (division : IsDivision items one)
    (division' : IsDivision items other) (placed : IsPlaced one) (placed' : IsPlaced other) where
  agree_at : (x : Item) → EarlierAgree one other x → EarlierAgree other one x → Agree one other x
  agree_at x there back k member =
      let (m, member') = in_other items one other k x division division' member in
      let same : k ≡ m =
      one_part one other x there back placed placed' division.filled division'.filled k m member member' in
      subst (λ n. Contains (part_at other n) x) (sym same) member'

-- the items that have fewer than `n` items before them
agree_below : (items : List Item) (one other : List (List Item)) → IsDivision items one → IsDivision items other
    → IsPlaced one → IsPlaced other
    → (n : ℕ) (x : Item) → rank items x < n → Agree one other x × Agree other one x
agree_below items one other division division' placed placed' zero x less = absurd (omega arith)
agree_below items one other division division' placed placed' (suc n) x less =
    let there : EarlierAgree one other x =
    λ k y before member. (agree_below items one other division division' placed placed' n y
    (let fewer = rank-lt items y x before (item_of items one k y division member) in omega
    (arith, fewer, less))).0 k member in
    let back : EarlierAgree other one x =
    λ k y before member. (agree_below items one other division division' placed placed' n y
    (let fewer = rank-lt items y x before (item_of items other k y division' member) in omega
    (arith, fewer, less))).1 k member in (
      agree_at items one other division division' placed placed' x there back,
      agree_at items other one division'
          division placed' placed x back there,
    )

agree : (items : List Item) (one other : List (List Item)) → IsDivision items one → IsDivision items other
    → IsPlaced one → IsPlaced other
    → (x : Item) → Agree one other x
agree items one other division division' placed placed' x =
    (agree_below items one other division division' placed placed' (suc (rank items x)) x (omega arith)).0

-- ---- so the parts are the same lists

-- `x` ends at or before the start of `y`
abbrev Precede : Item → Item → Type 0
Precede x y = x.period.to ≤ℤ y.period.from

not_both_precede : (x y : Item) → Precede x y → Precede y x → ⊥
not_both_precede x y one other =
    let held : x.period.from <ℤ x.period.to = x.period.ordered in
    let held' : y.period.from <ℤ y.period.to = y.period.ordered in
    omega (arith, ints)

-- in ascending items without overlaps, each ends at or before the start of the later ones
precede-from_rising : (part : List Item) → IsApart part → IsRising part → AllPairs Precede part
precede-from_rising part apart rising i j d less h =
    by_order (get_or part i d) (get_or part j d) (apart i j d less h) (rising i j d less h)
  where
    by_order : (x y : Item) → (Overlap x.period y.period → ⊥) → (IsBelow y x → ⊥) → Precede x y
    by_order x y no_overlap not_below =
        let held : y.period.from <ℤ y.period.to = y.period.ordered in
        let starts : x.period.from ≤ℤ y.period.from = from_le x y not_below in
        by_lt_z y.period.from x.period.to
        (λ inside. absurd (no_overlap (Overlap-from_ends x.period y.period (omega (arith, ints)) inside)))
        (λ past. past)

-- one division has no more parts than the other
no_more : (one other : List (List Item)) → All (λ part. 0 < length part) one → ((x : Item) → Agree one other x)
    → length one ≤ length other
no_more one other filled agrees = elim (cases_lt (length other) (length one)) [
  | inl less ↦
      let (z, first) = first_item (part_at one (length other))
      (All-get_or (λ part. 0 < length part) one (length other) [] less filled) in
      let within : length other < length other = is_part other (length other) z (agrees z (length other) first.0) in
      absurd (omega arith)
  | inr few ↦ few
]

pub one_placed : (items : List Item) (one other : List (List Item)) → IsDivision items one → IsDivision items other
    → IsPlaced one → IsPlaced other → All IsRising one → All IsRising other → one ≡ other
one_placed items one other division division' placed placed' rising rising' =
    let there : (x : Item) → Agree one other x = agree items one other division division' placed placed' in
    let back : (x : Item) → Agree other one x = agree items other one division' division placed' placed in
    let few : length one ≤ length other = no_more one other division.filled there in
    let many : length other ≤ length one = no_more other one division'.filled back in
    same_lists one other (omega arith)
    (λ k d h.
    let within : k < length other = omega arith in
    let precede : AllPairs Precede (part_at one k) =
    precede-from_rising (part_at one k) (All-get_or IsApart one k [] h division.apart)
    (All-get_or IsRising one k [] h rising) in
    let precede' : AllPairs Precede (part_at other k) =
    precede-from_rising (part_at other k) (All-get_or IsApart other k [] within division'.apart)
    (All-get_or IsRising other k [] within rising') in
    let same : part_at one k ≡ part_at other k =
    rising_is_one Precede (part_at one k) (part_at other k) not_both_precede precede precede' (λ x. there x k)
    (λ x. back x k) in
    get_or_default one k d [] h ∙ (same ∙ get_or_default other k [] d within))

pub one_dip : (items : List Item) (one other : List (List Item)) → IsDip items one → IsDip items other → one ≡ other
one_dip items one other p q =
    one_placed items one other p.divided.division q.divided.division p.placed q.placed p.divided.rising q.divided.rising

-- ---- the instant

one_instant : (items : List Item) (k : ℕ) (one other : ℤ) → IsInstant items k one → IsInstant items k other
    → one ≡ other
one_instant items k one other is is' =
    by_lt_z one other
    (λ less. absurd (is'.first one less is.crowded))
    (λ most. by_lt_z other one (λ less. absurd (is.first other less is'.crowded)) (λ least. omega (arith, ints)))

pub one_instant_of : (parts : List (List Item)) (one other : Option ℤ) → IsInstantOf parts one
    → IsInstantOf parts other → one ≡ other
one_instant_of parts None None p q = refl
one_instant_of parts None (Some t) p q = absurd (true≢false (q.none.1 (p.none.0 refl)))
one_instant_of parts (Some s) None p q = absurd (true≢false (p.none.1 (q.none.0 refl)))
one_instant_of parts (Some s) (Some t) p q = ap Some (one_instant (all_of parts) (length parts) s t p.crowded q.crowded)
