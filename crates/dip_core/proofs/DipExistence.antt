-- Items with distinct ids have a placed division: they are sorted and placed one after another.
use Rattle.std.proofs.Common.{◌≡◌, ℕ, zero, suc, ◌-◌, ◌<◌, ◌≤◌, ℤ, ◌≤ℤ◌, ◌<ℤ◌, List, [], ◌∷◌, ◌++◌, length, get_or, Option, Some, None, arith, refl, sym, ap, ◌∙◌, inl, inr, ◌⊎◌, subst, append_assoc}
use Rattle.std.specs.Prelude.{All, IsPermutation}
use Rattle.std.specs.Option.{ForSome}
use Rattle.std.specs.Ordering.{is_lt}
use Rattle.std.proofs.lemmas.Bool.{both_ways, cases_Bool, cases_lt, true≢false}
use Rattle.std.proofs.lemmas.Int.{ints, by_lt_z}
use Rattle.std.proofs.lemmas.Option.{none-some}
use Rattle.std.proofs.lemmas.List.{append-nil, nil_from_length}
use Rattle.std.proofs.lemmas.List.Elements.{All-cons, All-get_or, All-head, All-tail}
use Rattle.std.proofs.lemmas.List.Kept.{AllPairs-cons}
use Rattle.std.proofs.lemmas.List.Sorted.{All-permutation, IsPermutation-append_left, IsPermutation-cons, IsPermutation-middle, IsPermutation-refl, IsPermutation-sym, IsPermutation-trans}
use Rattle.list_core.proofs.RisingLemmas.{AllPairs-tail}
use Rattle.dip_core.specs.declared.item.Item.{Item}
use Rattle.dip_core.specs.Item.{item_cmp, HasDistinctIds, IsBelow, IsRising}
use Rattle.dip_core.specs.Division.{all_of, part_at, IsDip, IsDivision, IsInstant, IsInstantOf, IsLeast, IsLeastDivision, IsPlaced}
use Rattle.dip_core.specs.Invariants.{ArePlaced, opener}
use Rattle.dip_core.specs.Placing.{IsBestPart, IsGreatest, IsPlaceFor, NoPartIsFree, added, last_end}
use Rattle.dip_core.proofs.AddedLemmas.{all_of-added}
use Rattle.dip_core.proofs.CrowdLemmas.{crowd-permutation}
use Rattle.dip_core.proofs.DivisionLemmas.{HasDistinctIds-permutation, IsDivision-from_placed, IsDivision-permutation, IsInstant-from_placed, IsLeast-from_placed, IsLeast-permutation, IsLeastDivision-from_placed, IsLeastDivision-permutation, some_item}
use Rattle.dip_core.proofs.DipUniqueness.{less-from_test, one_placed}
use Rattle.dip_core.proofs.OrderLemmas.{not_below-trans, not_below_back}
use Rattle.dip_core.proofs.LastLemmas.{last_end_is, same_end}
use Rattle.dip_core.proofs.StepLemmas.{ArePlaced-added, IsGreatest-added, none_placed}

-- ---- the sorted items

-- a sorted permutation of the items
abbrev Risen : List Item → List Item → Type 0
Risen items xs = IsPermutation items xs × IsRising xs

insert : (x : Item) (xs : List Item) → IsRising xs → (ys : List Item) × Risen (x ∷ xs) ys
insert x [] rising = (x ∷ [], (IsPermutation-refl (x ∷ []), λ i j d less h. absurd (omega arith)))
insert x (y ∷ ys) rising = elim (cases_Bool (is_lt (item_cmp y x))) [
  | inl below ↦
      let under : IsBelow y x = less-from_test (item_cmp y x) below in
      let (zs, (moved, risen)) = insert x ys (AllPairs-tail (λ v w. IsBelow w v → ⊥) y ys rising) in
      let over : All (λ w. IsBelow w y → ⊥) zs =
      All-permutation (λ w. IsBelow w y → ⊥) (x ∷ ys) zs moved
      (All-cons (λ w. IsBelow w y → ⊥) x ys (not_below_back y x under)
      (λ k d h. rising 0 (suc k) d (omega arith) (omega arith))) in (
        y ∷ zs,
        (
          IsPermutation-trans (x ∷ (y ∷ ys)) (y ∷ (x ∷ ys)) (y ∷ zs)
              (IsPermutation-sym (y ∷ (x ∷ ys)) (x ∷ (y ∷ ys)) (IsPermutation-middle (y ∷ []) x ys))
              (IsPermutation-cons y (x ∷ ys) zs moved),
          AllPairs-cons (λ v w. IsBelow w v → ⊥) y zs over risen,
        ),
      )
  | inr above ↦
      let not_under : IsBelow y x → ⊥ = λ under. both_ways (is_lt (item_cmp y x)) above (ap is_lt under) in
      let over : All (λ w. IsBelow w x → ⊥) (y ∷ ys) =
      All-cons (λ w. IsBelow w x → ⊥) y ys not_under
      (λ k d h. not_below-trans x y (get_or ys k d) not_under (rising 0 (suc k) d (omega arith) (omega arith))) in
      (x ∷ (y ∷ ys), (IsPermutation-refl (x ∷ (y ∷ ys)), AllPairs-cons (λ v w. IsBelow w v → ⊥) x (y ∷ ys) over rising))
]

pub sorted_items : (items : List Item) → (xs : List Item) × Risen items xs
sorted_items [] = ([], (IsPermutation-refl [], λ i j d less h. absurd (omega arith)))
sorted_items (x ∷ items) =
    let (xs, (moved, rising)) = sorted_items items in
    let (ys, (moved', rising')) = insert x xs rising in
    (ys, (IsPermutation-trans (x ∷ items) (x ∷ xs) ys (IsPermutation-cons x items xs moved) moved', rising'))

-- ---- the part that an item goes into

-- either no part is free, or there is a best part
abbrev Found : List (List Item) → ℤ → Type 0
Found parts start = NoPartIsFree parts start ⊎ ((k : ℕ) × IsBestPart parts start k)

-- with one more part before them
module _ (part : List Item) (parts : List (List Item)) (start : ℤ) (end : ℤ) (ends : last_end part ≡ Some end) where
  none_still : NoPartIsFree parts start → start <ℤ end → NoPartIsFree (part ∷ parts) start
  none_still none late zero f e = let same : end ≡ f = same_end part end f ends e in omega (arith, ints)
  none_still none late (suc j) f e = none j f e

  first_alone : NoPartIsFree parts start → end ≤ℤ start → IsBestPart (part ∷ parts) start 0
  first_alone none over = record {
    end = end;
    ends = ends;
    over = over;
    best = λ j f e free. rest j f e free;
  }
    where
      rest : (j : ℕ) (f : ℤ) → last_end (part_at (part ∷ parts) j) ≡ Some f → f ≤ℤ start
          → (end <ℤ f) ⊎ ((end ≡ f) × (0 ≤ j))
      rest zero f e free = inr (same_end part end f ends e, omega arith)
      rest (suc j) f e free = let late : start <ℤ f = none j f e in absurd (omega (arith, ints))

  first_best : (k : ℕ) (best : IsBestPart parts start k) → end ≤ℤ best.end → IsBestPart (part ∷ parts) start 0
  first_best k best sooner = record {
    end = end;
    ends = ends;
    over = let o : best.end ≤ℤ start = best.over in omega (arith, ints);
    best = λ j f e free. rest j f e free;
  }
    where
      rest : (j : ℕ) (f : ℤ) → last_end (part_at (part ∷ parts) j) ≡ Some f → f ≤ℤ start
          → (end <ℤ f) ⊎ ((end ≡ f) × (0 ≤ j))
      rest zero f e free = inr (same_end part end f ends e, omega arith)
      rest (suc j) f e free = by_lt_z end f (λ less. inl less) (λ more. elim (best.best j f e free) [
        | inl below ↦ absurd (omega (arith, ints))
        | inr tied ↦ let t : best.end ≡ f = tied.0 in inr (omega (arith, ints), omega arith)
      ])

  best_still : (k : ℕ) (best : IsBestPart parts start k) → (end ≤ℤ start → best.end <ℤ end)
      → IsBestPart (part ∷ parts) start (suc k)
  best_still k best later = record {
    end = best.end;
    ends = best.ends;
    over = best.over;
    best = λ j f e free. rest j f e free;
  }
    where
      rest : (j : ℕ) (f : ℤ) → last_end (part_at (part ∷ parts) j) ≡ Some f → f ≤ℤ start
          → (best.end <ℤ f) ⊎ ((best.end ≡ f) × (suc k ≤ j))
      rest zero f e free =
          let same : end ≡ f = same_end part end f ends e in
          let less : best.end <ℤ end = later (omega (arith, ints)) in
          inl (omega (arith, ints))
      rest (suc j) f e free = elim (best.best j f e free) [
        | inl below ↦ inl below
        | inr tied ↦ inr (tied.0, omega (arith, tied.1))
      ]

  found_more : Found parts start → Found (part ∷ parts) start
  found_more (inl none) =
      by_lt_z start end (λ late. inl (none_still none late)) (λ over. inr (0, first_alone none over))
  found_more (inr (k, best)) = by_lt_z best.end end
      (λ later. inr (suc k, best_still k best (λ over. later)))
      (λ sooner. inr (0, first_best k best sooner))

some_end : (part : List Item) → 0 < length part → (end : ℤ) × (last_end part ≡ Some end)
some_end part filled =
    let d : Item = some_item part filled in ((get_or part (length part - 1) d).period.to, last_end_is part d filled)

found : (parts : List (List Item)) (start : ℤ) → All (λ part. 0 < length part) parts → Found parts start
found [] start filled = inl (λ j f e. absurd (cc))
found (part ∷ parts) start filled =
    let (end, ends) = some_end part (All-head (λ part. 0 < length part) part parts filled) in
    found_more part parts start end ends (found parts start (All-tail (λ part. 0 < length part) part parts filled))

some_place : (parts : List (List Item)) (start : ℤ) → All (λ part. 0 < length part) parts → (k : ℕ)
    × IsPlaceFor parts start k
some_place parts start filled = elim (found parts start filled) [
  | inl none ↦ (length parts, inr (refl, none))
  | inr best ↦ (best.0, inl best.1)
]

-- ---- all items, one after another

abbrev NotBelowLast : Option Item → Item → Type 0
NotBelowLast last x = ForSome last (λ z. IsBelow x z → ⊥)

place_all : (parts : List (List Item)) (last : Option Item) (xs : List Item) → ArePlaced parts → IsGreatest parts last
    → All (NotBelowLast last) xs → IsRising xs
    → (all_parts : List (List Item)) × (IsPermutation (all_of parts ++ xs) (all_of all_parts) × ArePlaced all_parts)
place_all parts last [] are greatest above rising = (
  parts,
  (
    subst (λ l. IsPermutation l (all_of parts)) (sym (append-nil (all_of parts)))
        (IsPermutation-refl (all_of parts)),
    are,
  ),
)
place_all parts last (x ∷ xs) are greatest above rising =
    let over : NotBelowLast last x = All-head (NotBelowLast last) x xs above in
    let (k, place) = some_place parts x.period.from are.filled in
    let later : All (NotBelowLast (Some x)) xs =
    λ i d h z is. subst (λ w. IsBelow (get_or xs i d) w → ⊥) (same_item_at x z is)
    (rising 0 (suc i) d (omega arith) (omega arith)) in
    let (all_parts, (moved, placed)) =
    place_all (added parts k x) (Some x) xs (ArePlaced-added parts last k x are greatest over place)
    (IsGreatest-added parts last k x greatest over) later
    (AllPairs-tail (λ v w. IsBelow w v → ⊥) x xs rising) in (
      all_parts,
      (
        IsPermutation-trans (all_of parts ++ x ∷ xs) (all_of (added parts k x) ++ xs) (all_of all_parts)
            (subst (λ l. IsPermutation l (all_of (added parts k x) ++ xs)) (append_assoc (all_of parts) (x ∷ []) xs)
            (IsPermutation-append_left xs (all_of parts ++ x ∷ []) (all_of (added parts k x)) (all_of-added parts k x)))
            moved,
        placed,
      ),
    )
  where
    same_item_at : (x z : Item) → Some x ≡ Some z → x ≡ z
    same_item_at x z is = cc

some_placed : (items : List Item) → (parts : List (List Item)) × (IsPermutation items (all_of parts) × ArePlaced parts)
some_placed items =
    let (xs, (moved, rising)) = sorted_items items in
    let (parts, (moved', placed)) =
    place_all [] None xs none_placed refl (λ k d h z is. absurd (none-some z is)) rising in
    (parts, (IsPermutation-trans items xs (all_of parts) moved moved', placed))

-- ---- the instant

IsInstant-permutation : (xs ys : List Item) (k : ℕ) (t : ℤ) → IsPermutation xs ys → IsInstant ys k t → IsInstant xs k t
IsInstant-permutation xs ys k t moved is = record {
  crowded = sym (crowd-permutation xs ys moved t) ∙ is.crowded;
  first = λ s less same. is.first s less (crowd-permutation xs ys moved s ∙ same);
}

some_instant-of_many : (items : List Item) (parts : List (List Item)) (t : ℤ) → IsDivision items parts
    → 0 < length parts
    → IsInstant items (length parts) t → IsInstantOf parts (Some t)
some_instant-of_many items parts t division some is = record {
  none = (λ never. absurd (true≢false never), λ e. let size : length parts ≡ 0 = ap length e in absurd (omega arith));
  crowded = IsInstant-permutation (all_of parts) items (length parts) t
      (IsPermutation-sym items (all_of parts) division.together) is;
}

-- a least division has the same number of parts as the placed one, whose instant is known
pub some_instant : (items : List Item) (parts : List (List Item)) → IsLeastDivision items parts
    → (instant : Option ℤ) × IsInstantOf parts instant
some_instant items parts divided =
    let (placed_parts, (moved, are)) = some_placed items in
    let division : IsDivision items placed_parts =
    IsDivision-permutation items (all_of placed_parts) placed_parts moved (IsDivision-from_placed placed_parts are) in
    let least : IsLeast items (length placed_parts) =
    IsLeast-permutation items (all_of placed_parts) (length placed_parts) moved
    (IsLeast-from_placed placed_parts are) in
    let few : length placed_parts ≤ length parts = least.least parts divided.division in
    let many : length parts ≤ length placed_parts = divided.least.least placed_parts division in
    let same : length placed_parts ≡ length parts = omega arith in
    elim (cases_lt 0 (length parts)) [
      | inl some ↦
          let some' : 0 < length placed_parts = omega arith in
          let d : Item =
          some_item (part_at placed_parts (length placed_parts - 1))
          (All-get_or (λ part. 0 < length part) placed_parts (length placed_parts - 1) [] (omega arith) are.filled) in
          let t : ℤ = (opener placed_parts d).period.from in
          let is : IsInstant items (length placed_parts) t =
          IsInstant-permutation items (all_of placed_parts) (length placed_parts) t moved
          (IsInstant-from_placed placed_parts d are some') in
          (Some t, some_instant-of_many items parts t divided.division some (subst (λ k. IsInstant items k t) same is))
      | inr none ↦ (
        None,
        record { none = (λ h. nil_from_length parts (omega arith), λ e. refl); crowded = tt },
      )
    ]

-- ---- the dip

pub some_dip : (items : List Item) → HasDistinctIds items → (parts : List (List Item)) × IsDip items parts
some_dip items distinct =
    let (parts, (moved, are)) = some_placed items in (
      parts,
      record {
        divided =
            IsLeastDivision-permutation items (all_of parts) parts moved (IsLeastDivision-from_placed parts are);
        placed = are.placed (HasDistinctIds-permutation items (all_of parts) moved distinct);
      },
    )

-- a placed division equals the one that exists, which is least
pub least-from_placed : (items : List Item) (parts : List (List Item)) → HasDistinctIds items
    → IsDivision items parts → IsPlaced parts
    → All IsRising parts → IsLeast items (length parts)
least-from_placed items parts distinct division placed rising =
    let (others, dip) = some_dip items distinct in
    subst (λ cs. IsLeast items (length cs))
    (one_placed items others parts dip.divided.division division dip.placed placed dip.divided.rising rising)
    dip.divided.least
