-- Items by class, split at a class.
use Rattle.std.proofs.Common.{◌≡◌, ℕ, ◌+◌, ◌-◌, ◌<◌, ◌≤◌, All, List, [], ◌∷◌, ◌++◌, length, take, drop, get_or, true, false, leb, leb-true, ltb, sym, subst, ap, None, Some, ◌∙◌, refl, arith, length-append}
use Rattle.std.specs.Prelude.{slice_get}
use Rattle.std.specs.List.Sorted.{IsPartitionPoint}
use Rattle.std.proofs.lemmas.Bool.{leb-false, ltb-false, ltb-true}
use Rattle.std.proofs.lemmas.List.{get_or-take, get_or-drop, length-drop, length-take, take_all, take-append-drop}
use Rattle.std.proofs.lemmas.List.Sorted.{IsNonDecreasingBy-drop}
use Rattle.std.proofs.Math.Seq.{drop-append_seam}
use Rattle.dip_core.specs.declared.item.Item.{Item}
use Rattle.dip_core.specs.Item.{HasDistinctIds}
use Rattle.dip_core.proofs.PartedLemmas.{distinct-earlier, distinct-later}
use Rattle.grid_core.specs.Bundles.{AreFromClass, ArePartedAt, ClassesRise}

-- the items before and after the partition point of a test for classes up to `class`
pub parted-from_point : (class : ℕ) (items low high : List Item) (n : ℕ) → n ≤ length items
    → IsPartitionPoint (λ y. leb y.class class ≡ true) (λ y. leb y.class class ≡ false) items n → low ≡ take n items
    → high ≡ drop n items → ArePartedAt (class + 1) items low high
parted-from_point class items low high n inside point front back = rw (front, back) (record {
  whole = sym (take-append-drop n items);
  below = λ k d h.
      let within : k < n = omega (arith, h, inside, length-take n items) in
      let upto : (get_or items k d).class ≤ class =
      leb-true (get_or items k d).class class (point.0 k d (omega arith) within) in
      subst (λ (x : Item). x.class < class + 1) (sym (get_or-take n items k d within)) (omega (arith, upto));
  from = λ k d h.
      let within : n + k < length items = omega (arith, h, inside, length-drop n items) in
      let above : class < (get_or items (n + k) d).class =
      leb-false (get_or items (n + k) d).class class (point.1 (n + k) d (omega arith) within) in
      subst (λ (x : Item). class + 1 ≤ x.class) (sym (get_or-drop n items k d)) (omega (arith, above));
})

-- the items from the partition point of a test for lower classes on
pub from-point : (class : ℕ) (items : List Item) (n : ℕ) → n ≤ length items
    → IsPartitionPoint (λ y. ltb y.class class ≡ true) (λ y. ltb y.class class ≡ false) items n
    → AreFromClass class items (take (length items - n) (drop n items))
from-point class items n inside point =
    let len : length (drop n items) ≡ length items - n = length-drop n items in
    rw (take_all (length items - n) (drop n items) (omega (arith, len))) (record {
      low = take n items;
      whole = sym (take-append-drop n items);
      below = λ k d h.
          let within : k < n = omega (arith, h, inside, length-take n items) in
          subst (λ (x : Item). x.class < class) (sym (get_or-take n items k d within))
          (ltb-true (get_or items k d).class class (point.0 k d (omega arith) within));
      from = λ k d h.
          let within : n + k < length items = omega (arith, h, inside, length-drop n items) in
          subst (λ (x : Item). class ≤ x.class) (sym (get_or-drop n items k d))
          (ltb-false (get_or items (n + k) d).class class (point.1 (n + k) d (omega arith) within));
    })

-- a list without a first item is empty
pub none_first : (items : List Item) → None ≡ slice_get items 0 → items ≡ []
none_first [] e = refl
none_first (y ∷ items) e = absurd cc

-- no class is below the first item's
pub first_lowest : (items : List Item) (first : Item) → Some first ≡ slice_get items 0 → ClassesRise items
    → All (λ (x : Item). first.class ≤ x.class) items
first_lowest [] first e rise = absurd cc
first_lowest (y ∷ items) first e rise = λ k d h.
    (let same : first ≡ y = cc in
    subst (λ (x : Item). x.class ≤ (get_or (y ∷ items) k d).class) (sym same) (rise 0 k d (omega arith) h))

module _ (class : ℕ) (items high : List Item) (are : AreFromClass class items high) where
  -- there are at most as many items of higher classes as all items
  pub from-few : length high ≤ length items
  from-few =
      let whole : length items ≡ length (are.low ++ high) = ap length are.whole in
      omega (arith, whole, length-append are.low high)

  -- and their classes are still in ascending order
  pub from-rise : ClassesRise items → ClassesRise high
  from-rise rise =
      subst ClassesRise (ap (drop (length are.low)) are.whole ∙ drop-append_seam are.low high)
      (IsNonDecreasingBy-drop (λ (x : Item). x.class) (length are.low) items rise)

module _ (class : ℕ) (items low high : List Item) (parted : ArePartedAt class items low high) where
  -- ids that are distinct in the whole list are distinct in each half
  pub low-distinct : HasDistinctIds items → HasDistinctIds low
  low-distinct distinct = distinct-earlier low high (subst HasDistinctIds parted.whole distinct)

  pub high-distinct : HasDistinctIds items → HasDistinctIds high
  high-distinct distinct = distinct-later low high (subst HasDistinctIds parted.whole distinct)

  -- there are at most as many items of higher classes as all items
  pub high-few : length high ≤ length items
  high-few =
      let whole : length items ≡ length (low ++ high) = ap length parted.whole in
      omega (arith, whole, length-append low high)

  -- and their classes are still in ascending order
  pub high-rise : ClassesRise items → ClassesRise high
  high-rise rise =
      subst ClassesRise (ap (drop (length low)) parted.whole ∙ drop-append_seam low high)
      (IsNonDecreasingBy-drop (λ (x : Item). x.class) (length low) items rise)
