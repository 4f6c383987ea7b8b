-- Constant intervals, class by class, and the steps of several parts.
use Rattle.std.proofs.Common.{◌≡◌, ℕ, zero, suc, ◌+◌, ◌-◌, ◌<◌, ◌≤◌, ℤ, List, [], ◌∷◌, ◌++◌, Some, length, get_or, take, drop, refl, sym, subst, ap, ◌∙◌, inl, inr, arith, append-nil, append_assoc, length-append}
use Rattle.std.specs.Prelude.{◌==◌, All, Contains, IsPermutation, slice_get}
use Rattle.std.proofs.Math.Seq.{take-add}
use Rattle.std.proofs.lemmas.Bool.{cases_eq, eq-eqb}
use Rattle.std.proofs.lemmas.List.{drop-drop, take-append-drop}
use Rattle.std.proofs.lemmas.List.Elements.{All-contains, Contains-append_left, Contains-get_or}
use Rattle.std.proofs.lemmas.List.Sorted.{length_permutation}
use Rattle.dip_core.specs.declared.item.Item.{Item}
use Rattle.dip_core.specs.Item.{item_limit}
use Rattle.dip_core.specs.Division.{all_of, part_at}
use Rattle.dip_core.proofs.PartedLemmas.{all_of-append}
use Rattle.list_core.specs.Wanted.{AddsAll, IsListOf}
use Rattle.list_core.proofs.WantedLemmas.{IsListOf-none, IsListOf-same}
use Rattle.grid_core.specs.Bundles.{ArePartedAt, ClassesRise}
use Rattle.grid_core.proofs.BundleLemmas.{first_lowest, high-few, high-rise}
use Rattle.grid_core.proofs.RangeItems.{filter_all}
use Rattle.merge_core.specs.Steps.{IsStepListOf, StepList, tally_at}
use Rattle.merge_core.specs.Tallies.{IsTallyAt}
use Rattle.merge_core.proofs.SweepLemmas.{IsMaximal-same}
use Rattle.round_core.specs.declared.measure.Measure.{Measure}
use Rattle.round_core.specs.declared.plateau.Plateau.{Plateau}
use Rattle.round_core.specs.Closing.{GivesValue, IsStepPlateau}
use Rattle.round_core.specs.Plateaus.{ArePlateaus, HasValue, IsPlateau, PlateauBefore, of_class}
use Rattle.round_core.proofs.ClassLemmas.{ArePlateaus-parted, no_plateau, none_of}
use Rattle.round_core.proofs.CollectLemmas.{value_of_items, value_of_steps}
use Rattle.round_core.proofs.PermutedLemmas.{IsTallyAt-permuted}

-- ---- the intervals of one class

module _ (measure : Measure) (class : ℕ) (own : List Item) (list : StepList)
    (all : All (λ (x : Item). x.class ≡ class) own) (steps : IsStepListOf own list) where
  whole : of_class class own ≡ own
  whole = filter_all (λ (x : Item). x.class == class) own (λ k d h. eq-eqb _ class (all k d h))

  same : (p : Plateau) → p.class ≡ class → (t : ℤ) → IsTallyAt (of_class p.class own) t (tally_at list.steps t)
  same p e t =
      subst (λ (xs : List Item). IsTallyAt xs t (tally_at list.steps t))
      (sym (ap (λ (k : ℕ). of_class k own) e ∙ whole)) (steps.tallies t)

  to : (p : Plateau) → IsStepPlateau measure class list.steps p → IsPlateau measure own p
  to p is = record {
    maximal = IsMaximal-same (GivesValue measure list.steps p.value) (HasValue measure (of_class p.class own) p.value)
        p.period
        (value_of_steps measure (of_class p.class own) list.steps (same p is.class_is) p.value)
        (value_of_items measure (of_class p.class own) list.steps (same p is.class_is) p.value) is.maximal;
  }

  back : (p : Plateau) → IsPlateau measure own p → IsStepPlateau measure class list.steps p
  back p is = elim (cases_eq p.class class) [
    | inl e ↦ record {
      class_is = e;
      maximal = IsMaximal-same (HasValue measure (of_class p.class own) p.value)
          (GivesValue measure list.steps p.value) p.period
          (value_of_items measure (of_class p.class own) list.steps (same p e) p.value)
          (value_of_steps measure (of_class p.class own) list.steps (same p e) p.value) is.maximal;
    }
    | inr other ↦ absurd (no_plateau measure own p
        (none_of p.class own (λ k d h f. other (sym f ∙ all k d h))) is)
  ]

  -- The constant intervals of one class are its steps, coalesced.
  pub class-plateaus : (rows : List Plateau) → IsListOf PlateauBefore (IsStepPlateau measure class list.steps) rows
      → ArePlateaus measure own rows
  class-plateaus rows lists =
      IsListOf-same PlateauBefore (IsStepPlateau measure class list.steps) (IsPlateau measure own) rows to back lists

-- ---- class by class

-- The intervals found already, followed by the intervals of the items that are left, are all intervals.
pub record IsGathering (measure : Measure) (items left : List Item) (rows : List Plateau) : Type 0 where
  pub goes_on : (rest : List Plateau) → ArePlateaus measure left rest → ArePlateaus measure items (rows ++ rest)
  pub few : length left ≤ length items
  pub rise : ClassesRise left

-- At first all items are left.
pub gathering_start : (measure : Measure) (items : List Item) (rows : List Plateau) → rows ≡ [] → ClassesRise items
    → IsGathering measure items items rows
gathering_start measure items rows none rise =
    subst (IsGathering measure items items) (sym none)
    (record { goes_on = λ rest all. all; few = omega arith; rise = rise })

-- The first parted items have the class of the first item.
pub own-class : (left own later : List Item) (first : Item) → Some first ≡ slice_get left 0 → ClassesRise left
    → ArePartedAt (first.class + 1) left own later → All (λ (x : Item). x.class ≡ first.class) own
own-class left own later first e rise parted k d h =
    let x = get_or own k d in
    let low : first.class ≤ x.class =
    All-contains (λ (y : Item). first.class ≤ y.class) left x (first_lowest left first e rise)
    (subst (λ (l : List Item). Contains l x) (sym parted.whole)
    (Contains-append_left own later x (Contains-get_or own k d h))) in
    let high = parted.below k d h in
    omega (arith, low, high)

-- One more class.
pub gathering_more : (measure : Measure) (items left own later : List Item) (first : Item) (list : StepList)
    (old new : List Plateau) → Some first ≡ slice_get left 0 → ArePartedAt (first.class + 1) left own later
    → IsStepListOf own list → AddsAll PlateauBefore (IsStepPlateau measure first.class list.steps) old new
    → IsGathering measure items left old → IsGathering measure items later new
gathering_more measure items left own later first list old new e parted steps adds i =
    let added : ArePlateaus measure own adds.added =
    class-plateaus measure first.class own list (own-class left own later first e i.rise parted) steps adds.added adds.all in
    subst (IsGathering measure items later) (sym adds.split) (record {
      goes_on = λ rest all.
          subst (ArePlateaus measure items) (sym (append_assoc old adds.added rest))
          (i.goes_on (adds.added ++ rest)
          (ArePlateaus-parted measure (first.class + 1) left own later parted adds.added rest added all));
      few = (let most = i.few in
          let fewer = high-few (first.class + 1) left own later parted in
          omega (arith, most, fewer));
      rise = high-rise (first.class + 1) left own later parted i.rise;
    })

-- Without items, the list of intervals is empty.
none-plateaus : (measure : Measure) → ArePlateaus measure [] []
none-plateaus measure = IsListOf-none PlateauBefore (IsPlateau measure []) (λ p is. no_plateau measure [] p refl is)

-- At the end no items are left.
pub gathering_end : (measure : Measure) (items left : List Item) (rows : List Plateau) → left ≡ []
    → IsGathering measure items left rows → ArePlateaus measure items rows
gathering_end measure items left rows none i =
    subst (ArePlateaus measure items) (append-nil rows)
    (i.goes_on [] (subst (λ (xs : List Item). ArePlateaus measure xs []) (sym none) (none-plateaus measure)))

-- ---- parts

-- The items of one part.
pub all_of-one : (qs : List (List Item)) (start : ℕ) → start < length qs
    → all_of (take 1 (drop start qs)) ≡ part_at qs start
all_of-one [] start h = absurd (omega arith)
all_of-one (q ∷ []) zero h = append-nil q
all_of-one (q ∷ (r ∷ qs)) zero h = append-nil q
all_of-one (q ∷ qs) (suc start) h = all_of-one qs start (omega arith)

-- The items of two consecutive lists of parts.
pub all_of-halves : (qs : List (List Item)) (start half rest count : ℕ) → half + rest ≡ count
    → all_of (take half (drop start qs)) ++ all_of (take rest (drop (start + half) qs))
    ≡ all_of (take count (drop start qs))
all_of-halves qs start half rest count e =
    ap (λ z. all_of (take half (drop start qs)) ++ all_of (take rest z)) (sym (drop-drop half start qs))
    ∙ sym (all_of-append (take half (drop start qs)) (take rest (drop half (drop start qs))))
    ∙ ap all_of (sym (take-add half rest (drop start qs))) ∙ ap (λ n. all_of (take n (drop start qs))) e

-- Some parts have at most as many items as all parts.
pub run-few : (qs : List (List Item)) (start count : ℕ)
    → length (all_of (take count (drop start qs))) ≤ length (all_of qs)
run-few qs start count =
    let one : length (all_of (take count (drop start qs) ++ drop count (drop start qs)))
    ≡ length (all_of (take count (drop start qs))) + length (all_of (drop count (drop start qs))) =
    ap length (all_of-append (take count (drop start qs)) (drop count (drop start qs)))
    ∙ length-append (all_of (take count (drop start qs))) (all_of (drop count (drop start qs))) in
    let two : length (all_of (take start qs ++ drop start qs))
    ≡ length (all_of (take start qs)) + length (all_of (drop start qs)) =
    ap length (all_of-append (take start qs) (drop start qs))
    ∙ length-append (all_of (take start qs)) (all_of (drop start qs)) in
    let same = ap (λ z. length (all_of z)) (take-append-drop count (drop start qs)) in
    let whole = ap (λ z. length (all_of z)) (take-append-drop start qs) in
    omega (arith, one, two, same, whole)

-- Items in another order have the same steps.
pub steps-permuted : (xs ys : List Item) (list : StepList) → IsPermutation xs ys → IsStepListOf xs list
    → IsStepListOf ys list
steps-permuted xs ys list moved is = record {
  tallies = λ t. IsTallyAt-permuted xs ys t (tally_at list.steps t) moved (is.tallies t);
  weight = is.weight ∙ sym (length_permutation xs ys moved);
}

-- If there are items, there are parts.
pub some-parts : (items : List Item) (ps : List (List Item)) → IsPermutation items (all_of ps) → 0 < length items
    → 0 < length ps
some-parts items [] moved some = (let same = length_permutation items [] moved in absurd (omega (arith, same, some)))
some-parts items (p ∷ ps) moved some = omega arith
