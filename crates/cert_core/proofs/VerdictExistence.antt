-- Some verdict is the first that applies: each fault is decidable.
use Rattle.std.proofs.Common.{◌≡◌, ◌≢◌, ◌⊎◌, ℕ, zero, suc, ◌+◌, ◌<◌, ℤ, ◌<ℤ◌, List, [], ◌∷◌, ◌++◌, length, get_or, take, Some, None, Option, arith, refl, sym, ap, ◌∙◌, subst, inl, inr, append_assoc}
use Rattle.std.specs.Prelude.{All, Contains, MatchOption, IsSorted, slice_get}
use Rattle.std.specs.List.{AllAdjacentBelow}
use Rattle.std.specs.Ordering.{is_lt}
use Rattle.std.proofs.lemmas.Bool.{cases_Bool, cases_eq, cases_lt}
use Rattle.std.proofs.lemmas.Int.{ints, by_lt_z}
use Rattle.std.proofs.lemmas.List.{append-nil, get_or_append_left, get_or_at}
use Rattle.std.proofs.lemmas.List.Elements.{All-cons, All-contains, All-nil}
use Rattle.period_core.specs.declared.period.Period.{Period}
use Rattle.period_core.specs.Period.{Overlap}
use Rattle.period_core.proofs.PeriodLemmas.{Overlap-ends, Overlap-from_ends}
use Rattle.list_core.proofs.RisingLemmas.{Contains-cons, Contains-cons_cases, Contains-none}
use Rattle.list_core.proofs.PlaceLemmas.{All-front, All-back}
use Rattle.dip_core.specs.declared.item.Item.{Item}
use Rattle.dip_core.specs.Item.{IdsRise, IsRising, crowd, item_cmp}
use Rattle.dip_core.proofs.DipExistence.{sorted_items}
use Rattle.dip_core.proofs.DipUniqueness.{less-from_test}
use Rattle.cert_core.specs.declared.verdict.Certificate.{Certificate}
use Rattle.cert_core.specs.declared.verdict.Verdict.{Verdict}
use Rattle.cert_core.specs.declared.verdict.Verdict.TheVariants.{WrongCount, EmptyPart, Unknown, Twice, Missing, NotCrowded, Yes}
use Rattle.cert_core.specs.declared.verdict.Verdict.TheVariants as verdict
use Rattle.cert_core.specs.Claim.{ids_of, IsEmptyPart}
use Rattle.cert_core.specs.Ids.{IsDistinct, IsTwice}
use Rattle.cert_core.specs.Places.{IsFirstPair, id_at}
use Rattle.cert_core.specs.Verdict.{HasItem, HasNoOverlap, IsFirstOverlap, IsMissing, IsOverlap, IsUnknown, IsVerdict, holders}
use Rattle.cert_core.proofs.IdsLemmas.{IsDistinct-append_left, IsDistinct-append_right, IsDistinct-push, id_at-get_or, id_at-rises}
use Rattle.cert_core.proofs.OverlapLemmas.{AreSorted, AreSorted-from_sort, HasNoOverlap-from_pairs, IsFirstOverlap-from_pair}
use Rattle.cert_core.proofs.PassesLemmas.{named_items}
use Rattle.cert_core.proofs.VerdictLemmas.{first_verdict, missing-first, not_crowded-first, not_empty, not_wrong, overlap-first, twice-first, yes-first}

-- ---- parts without ids

later_empty : (i : ℕ) (part : List ℕ) (claim : List (List ℕ)) (k : ℕ) → IsEmptyPart claim k
    → IsEmptyPart ((i ∷ part) ∷ claim) (suc k)
later_empty i part claim k is = record { empty = is.empty; first = first_of } where
  first_of : (j : ℕ) → j < suc k → slice_get ((i ∷ part) ∷ claim) j ≢ Some []
  first_of zero less e = cc e
  first_of (suc j) less e = is.first j (omega arith) e

some_empty : (claim : List (List ℕ)) → ((k : ℕ) × IsEmptyPart claim k) ⊎ All (λ part. 0 < length part) claim
some_empty [] = inr (All-nil (λ part. 0 < length part))
some_empty ([] ∷ claim) = inl (0, record { empty = refl; first = λ j less. absurd (omega arith) })
some_empty ((i ∷ part) ∷ claim) = elim (some_empty claim) [
  | inl found ↦ let (k, is) = found in inl (suc k, later_empty i part claim k is)
  | inr filled ↦ inr (All-cons (λ part. 0 < length part) (i ∷ part) claim (omega arith) filled)
]

-- ---- unknown ids

has_item : (items : List Item) (id : ℕ) → HasItem items id ⊎ (HasItem items id → ⊥)
has_item [] id = inr (λ any. nowhere any)
  where
    nowhere : HasItem [] id → ⊥
    nowhere (k, y, h, is, e) = omega arith
has_item (x ∷ items) id = elim (cases_eq x.id id) [
  | inl same ↦ inl (0, x, omega arith, refl, same)
  | inr other ↦ elim (has_item items id) [
    | inl later ↦ let (k, y, h, is, e) = later in inl (suc k, y, omega arith, is, e)
    | inr none ↦ inr (nowhere other none)
  ]
]
  where
    nowhere : (x.id ≡ id → ⊥) → (HasItem items id → ⊥) → HasItem (x ∷ items) id → ⊥
    nowhere other none (zero, y, h, is, e) = other (ap (λ (z : Item). z.id) is ∙ e)
    nowhere other none (suc k, y, h, is, e) = none (k, y, omega arith, is, e)

some_unknown : (items : List Item) (ids : List ℕ) → ((id : ℕ) × IsUnknown items ids id) ⊎ All (HasItem items) ids
some_unknown items [] = inr (All-nil (HasItem items))
some_unknown items (id ∷ ids) = elim (has_item items id) [
  | inl has ↦ elim (some_unknown items ids) [
    | inl found ↦
        let (other, is) = found in
        inl (
          other,
          record {
            before = id ∷ is.before;
            after = is.after;
            stands = ap (λ l. id ∷ l) is.stands;
            unknown = is.unknown;
            first = All-cons (HasItem items) id is.before has is.first;
          },
        )
    | inr known ↦ inr (All-cons (HasItem items) id ids has known)
  ]
  | inr none ↦
      inl (id, record { before = []; after = ids; stands = refl; unknown = none; first = All-nil (HasItem items) })
]

-- ---- ids that occur twice

is_among : (ids : List ℕ) (id : ℕ) → Contains ids id ⊎ (Contains ids id → ⊥)
is_among [] id = inr (Contains-none id)
is_among (i ∷ ids) id = elim (cases_eq i id) [
  | inl same ↦ inl (0, omega arith, same)
  | inr other ↦ elim (is_among ids id) [
    | inl later ↦ inl (Contains-cons i ids id later)
    | inr none ↦
        inr (λ there. elim (Contains-cons_cases i ids id there) [ inl same ↦ other same | inr later ↦ none later ])
  ]
]

twice_from : (passed left : List ℕ) → IsDistinct passed → ((id : ℕ) × IsTwice (passed ++ left) id)
    ⊎ IsDistinct (passed ++ left)
twice_from passed [] distinct = inr (subst IsDistinct (sym (append-nil passed)) distinct)
twice_from passed (id ∷ left) distinct = elim (is_among passed id) [
  | inl again ↦ inl (id, record { before = passed; after = left; stands = refl; again = again; first = distinct })
  | inr new ↦
      subst (λ l. ((i : ℕ) × IsTwice l i) ⊎ IsDistinct l) (append_assoc passed (id ∷ []) left)
      (twice_from (passed ++ id ∷ []) left (IsDistinct-push passed id distinct new))
]

some_twice : (ids : List ℕ) → ((id : ℕ) × IsTwice ids id) ⊎ IsDistinct ids
some_twice ids = twice_from [] ids (λ i. omega arith)

-- ---- missing ids

record FirstMissing (items : List Item) (ids : List ℕ) : Type 0 where
  before : List Item
  item : Item
  after : List Item
  stands : items ≡ before ++ item ∷ after
  missing : Contains ids item.id → ⊥
  earlier : All (λ x. Contains ids x.id) before

first_missing : (items : List Item) (ids : List ℕ) → FirstMissing items ids ⊎ All (λ x. Contains ids x.id) items
first_missing [] ids = inr (All-nil (λ x. Contains ids x.id))
first_missing (x ∷ items) ids = elim (is_among ids x.id) [
  | inl there ↦ elim (first_missing items ids) [
    | inl found ↦ inl (record {
      before = x ∷ found.before;
      item = found.item;
      after = found.after;
      stands = ap (λ l. x ∷ l) found.stands;
      missing = found.missing;
      earlier = All-cons (λ x. Contains ids x.id) x found.before there found.earlier;
    })
    | inr all ↦ inr (All-cons (λ x. Contains ids x.id) x items there all)
  ]
  | inr none ↦
      inl (record {
        before = [];
        item = x;
        after = items;
        stands = refl;
        missing = none;
        earlier = All-nil
            (λ x. Contains ids x.id);
      })
]

-- in ascending ids, an item with a lower id comes earlier
stands_before : (before : List Item) (x : Item) (after : List Item) → IdsRise (before ++ x ∷ after)
    → (k : ℕ) (y : Item) → k < length (before ++ x ∷ after)
    → get_or (before ++ x ∷ after) k y ≡ y → y.id < x.id → k < length before
stands_before before x after rise k y h is less = elim (cases_lt k (length before)) [
  | inl sooner ↦ sooner
  | inr later ↦
      let here : get_or (before ++ x ∷ after) (length before) y ≡ x = get_or_at before x after y (length before) refl in
      let of_y : id_at (before ++ x ∷ after) k ≡ y.id =
      id_at-get_or (before ++ x ∷ after) k y h ∙ ap (λ (z : Item). z.id) is in
      let of_x : id_at (before ++ x ∷ after) (length before) ≡ x.id =
      id_at-get_or (before ++ x ∷ after) (length before) y (omega arith) ∙ ap (λ (z : Item). z.id) here in
      elim (cases_lt (length before) k) [
        | inl past ↦
            let rises : id_at (before ++ x ∷ after) (length before) < id_at (before ++ x ∷ after) k =
            id_at-rises (before ++ x ∷ after) rise (length before) k past h in
            absurd (omega arith)
        | inr most ↦
            let same : k ≡ length before = omega arith in
            let one : id_at (before ++ x ∷ after) k ≡ id_at (before ++ x ∷ after) (length before) =
            ap (id_at (before ++ x ∷ after)) same in
            absurd (omega arith)
      ]
]

missing-from_first : (items : List Item) (ids : List ℕ) (f : FirstMissing items ids) → IdsRise items
    → IsMissing items ids f.item.id
missing-from_first items ids f rise =
    subst (λ l. IsMissing l ids f.item.id) (sym f.stands) (record {
      known = (
        length f.before,
        f.item,
        within f.before,
        get_or_at f.before f.item f.after f.item
            (length f.before) refl,
        refl,
      );
      missing = f.missing;
      least = λ other has less. lower has less;
    })
  where
    within : (before : List Item) → length before < length (before ++ f.item ∷ f.after)
    within [] = omega arith
    within (y ∷ before) = let rest = within before in omega (arith, rest)

    lower : {other : ℕ} → HasItem (f.before ++ f.item ∷ f.after) other → other < f.item.id → Contains ids other
    lower {other} (k, y, h, is, e) less =
        let less' : y.id < f.item.id = subst (λ n. n < f.item.id) (sym e) less in
        let sooner : k < length f.before =
        stands_before f.before f.item f.after (subst IdsRise f.stands rise) k y h is less' in
        let there : get_or f.before k y ≡ y = sym (get_or_append_left f.before (f.item ∷ f.after) y k sooner) ∙ is in
        subst (Contains ids) e (All-contains (λ x. Contains ids x.id) f.before y f.earlier (k, sooner, there))

some_missing : (items : List Item) (ids : List ℕ) → IdsRise items → ((id : ℕ) × IsMissing items ids id)
    ⊎ All (λ x. Contains ids x.id) items
some_missing items ids rise = elim (first_missing items ids) [
  | inl found ↦ inl (found.item.id, missing-from_first items ids found rise)
  | inr all ↦ inr all
]

-- ---- overlaps

overlap_or_not : (x y : Period) → Overlap x y ⊎ (Overlap x y → ⊥)
overlap_or_not x y =
    by_lt_z x.from y.to
    (λ first. by_lt_z y.from x.to (λ second. inl (Overlap-from_ends x y first second))
    (λ past. inr
    (λ shared. let ends = Overlap-ends x y shared in let b : y.from <ℤ x.to = ends.1 in omega
    (arith, ints, past, b))))
    (λ past. inr
    (λ shared. let ends = Overlap-ends x y shared in let b : x.from <ℤ y.to = ends.0 in omega
    (arith, ints, past, b)))

abbrev NoPair : List Item → Type 0
NoPair xs = AllAdjacentBelow (λ x y. Overlap x.period y.period → ⊥) xs (length xs)

NoPair-cons : (x y : Item) (ys : List Item) → (Overlap x.period y.period → ⊥) → NoPair (y ∷ ys) → NoPair (x ∷ (y ∷ ys))
NoPair-cons x y ys none rest zero d h = none
NoPair-cons x y ys none rest (suc k) d h =
    let e : suc k + 1 ≡ suc (k + 1) = omega arith in
    subst (λ n. Overlap (get_or (y ∷ ys) k d).period (get_or (x ∷ (y ∷ ys)) n d).period → ⊥) (sym e)
    (rest k d (omega arith))

later_pair : (x y : Item) (ys : List Item) (a b : ℕ) → (Overlap x.period y.period → ⊥) → IsFirstPair (y ∷ ys) a b
    → IsFirstPair (x ∷ (y ∷ ys)) a b
later_pair x y ys a b none p = record {
  place = suc p.place;
  within = let w : p.place + 1 < length (y ∷ ys) = p.within in omega arith;
  ids = λ d. subst (λ n. ((get_or (y ∷ ys) p.place d).id ≡ a) × ((get_or (x ∷ (y ∷ ys)) n d).id ≡ b)) (sym next)
      (p.ids d);
  overlap = λ d. subst (λ n. Overlap (get_or (y ∷ ys) p.place d).period (get_or (x ∷ (y ∷ ys)) n d).period) (sym next)
      (p.overlap d);
  first = sooner;
}
  where
    next : suc p.place + 1 ≡ suc (p.place + 1)
    next = omega arith

    sooner : (k : ℕ) (d : Item) → k + 1 < suc p.place + 1
        → Overlap (get_or (x ∷ (y ∷ ys)) k d).period (get_or (x ∷ (y ∷ ys)) (k + 1) d).period → ⊥
    sooner zero d h = none
    sooner (suc k) d h =
        let e : suc k + 1 ≡ suc (k + 1) = omega arith in
        subst (λ n. Overlap (get_or (y ∷ ys) k d).period (get_or (x ∷ (y ∷ ys)) n d).period → ⊥) (sym e)
        (p.first k d (omega arith))

some_pair : (xs : List Item) → ((a : ℕ) × (b : ℕ) × IsFirstPair xs a b) ⊎ NoPair xs
some_pair [] = inr (λ k d h. absurd (omega arith))
some_pair (x ∷ []) = inr (λ k d h. absurd (omega arith))
some_pair (x ∷ (y ∷ ys)) = elim (overlap_or_not x.period y.period) [
  | inl shared ↦ inl (
    x.id,
    y.id,
    record {
      place = 0;
      within = omega arith;
      ids = λ d. (refl, refl);
      overlap = λ d. shared;
      first = λ k d h. absurd
          (omega arith);
    },
  )
  | inr none ↦ elim (some_pair (y ∷ ys)) [
    | inl found ↦ let (a, b, p) = found in inl (a, b, later_pair x y ys a b none p)
    | inr rest ↦ inr (NoPair-cons x y ys none rest)
  ]
]

sorted-from_rising : (xs : List Item) → IsRising xs → IsSorted item_cmp xs
sorted-from_rising xs rising k d low h = elim (cases_Bool (is_lt (item_cmp (get_or xs (k + 1) d) (get_or xs k d)))) [
  | inl below ↦
      absurd (rising k (k + 1) d (omega arith) h
      (less-from_test (item_cmp (get_or xs (k + 1) d) (get_or xs k d)) below))
  | inr above ↦ above
]

overlap_of_part : (items : List Item) (part : List ℕ) → IdsRise items → All (HasItem items) part → IsDistinct part
    → ((a : ℕ) × (b : ℕ) × IsFirstOverlap items part a b) ⊎ HasNoOverlap items part
overlap_of_part items part rise known distinct =
    let (taken, named) = named_items items part known in
    let (xs, (moved, rising)) = sorted_items taken in
    let are : AreSorted items part xs =
    AreSorted-from_sort items part taken xs rise named distinct moved (sorted-from_rising xs rising) in
    elim (some_pair xs) [
      | inl found ↦ let (a, b, p) = found in inl (a, b, IsFirstOverlap-from_pair items part xs a b are p)
      | inr none ↦ inr (HasNoOverlap-from_pairs items part xs are none)
    ]

some_overlap : (items : List Item) (claim : List (List ℕ)) → IdsRise items → All (HasItem items) (ids_of claim)
    → IsDistinct (ids_of claim)
    → ((a : ℕ) × (b : ℕ) × IsOverlap items claim a b) ⊎ All (HasNoOverlap items) claim
some_overlap items [] rise known distinct = inr (All-nil (HasNoOverlap items))
some_overlap items (part ∷ claim) rise known distinct =
    elim (overlap_of_part items part rise (All-front (HasItem items) part (ids_of claim) known)
    (IsDistinct-append_left part (ids_of claim) distinct)) [
      | inl found ↦
          let (a, b, overlap) = found in
          inl (
            a,
            b,
            record {
              number = 0;
              part = part;
              is_part = refl;
              earlier = All-nil
                  (HasNoOverlap items);
              overlap = overlap;
            },
          )
      | inr none ↦
          elim (some_overlap items claim rise (All-back (HasItem items) part (ids_of claim) known)
          (IsDistinct-append_right part (ids_of claim) distinct)) [
            | inl found ↦
                let (a, b, is) = found in
                inl (
                  a,
                  b,
                  record {
                    number = suc is.number;
                    part = is.part;
                    is_part = is.is_part;
                    earlier = All-cons (HasNoOverlap items) part (take is.number claim) none is.earlier;
                    overlap = is.overlap;
                  },
                )
            | inr apart ↦ inr (All-cons (HasNoOverlap items) part claim none apart)
          ]
    ]

-- ---- the instant

wrong_or_right : (items : List Item) (parts : ℕ) (instant : Option ℤ)
    → MatchOption instant (items ≢ []) (λ t. (items ≡ []) ⊎ (crowd items t ≢ parts))
    ⊎ MatchOption instant (items ≡ []) (λ t. (items ≢ []) × (crowd items t ≡ parts))
wrong_or_right [] parts None = inr refl
wrong_or_right [] parts (Some t) = inl (inl refl)
wrong_or_right (x ∷ items) parts None = inl (λ e. cc e)
wrong_or_right (x ∷ items) parts (Some t) =
    elim (cases_eq (crowd (x ∷ items) t) parts) [ inl same ↦ inr ((λ e. cc e), same) | inr other ↦ inl (inr other) ]

-- ---- the verdict

pub some_verdict : (items : List Item) (claim : List (List ℕ)) (certificate : Certificate) → IdsRise items
    → (verdict : Verdict) × IsVerdict items claim certificate verdict
some_verdict items claim certificate rise = elim (cases_eq (length claim) certificate.parts) [
  | inr other ↦ (WrongCount (length claim), record { applies = (refl, other); first = λ w less. absurd (omega arith) })
  | inl counted ↦ elim (some_empty claim) [
    | inl found ↦ let (k, is) = found in (
      EmptyPart k,
      record {
        applies = is;
        first = first_verdict items claim certificate 1 (omega arith) (λ n h. not_wrong claim certificate n counted)
            (λ k h. absurd (omega arith)) (λ id h. absurd (omega arith)) (λ id h. absurd (omega arith))
            (λ id h. absurd (omega arith)) (λ a b h. absurd (omega arith)) (λ n h. absurd (omega arith));
      },
    )
    | inr filled ↦ elim (some_unknown items (ids_of claim)) [
      | inl found ↦ let (id, is) = found in (
        Unknown id,
        record {
          applies = is;
          first = first_verdict items claim certificate 2 (omega arith) (λ n h. not_wrong claim certificate n counted)
              (λ k h. not_empty claim k filled) (λ id h. absurd (omega arith)) (λ id h. absurd (omega arith))
              (λ id h. absurd (omega arith)) (λ a b h. absurd (omega arith)) (λ n h. absurd (omega arith));
        },
      )
      | inr known ↦ elim (some_twice (ids_of claim)) [
        | inl found ↦ let (id, is) = found in (Twice id, twice-first items claim certificate id counted filled known is)
        | inr distinct ↦ elim (some_missing items (ids_of claim) rise) [
          | inl found ↦ let (id, is) =
              found in (Missing id, missing-first items claim certificate id counted filled known distinct is)
          | inr complete ↦ elim (some_overlap items claim rise known distinct) [
            | inl found ↦ let (a, b, is) =
                found in (
                  verdict.Overlap a b,
                  overlap-first items claim certificate a b counted filled known distinct
                      complete is,
                )
            | inr apart ↦ elim (wrong_or_right items certificate.parts certificate.instant) [
              | inl wrong ↦ (
                NotCrowded (holders items certificate.instant),
                not_crowded-first items claim certificate
                    (holders items certificate.instant) rise counted filled known distinct complete apart (refl, wrong),
              )
              | inr right ↦ (
                Yes,
                yes-first items claim certificate rise
                    (record {
                      counted = counted;
                      filled = filled;
                      known = known;
                      distinct = distinct;
                      complete = complete;
                      apart = apart;
                      crowded = right;
                    }),
              )
            ]
          ]
        ]
      ]
    ]
  ]
]
