-- The items of a range's classes.
use Rattle.std.proofs.Common.{arith, ◌≡◌, ◌∙◌, ℕ, suc, ◌+◌, ◌<◌, ◌≤◌, Bool, true, false, not, ◌&&◌, List, [], ◌∷◌, ◌++◌, Option, Some, None, refl, sym, ap, subst, filter, cond, All, length, slice_index_or, get_or, count_by, ◌==◌, ltb, ltb-true, take, drop}
use Rattle.std.specs.Ordering.{nat_cmp}
use Rattle.std.specs.List.Sorted.{IsPartitionPoint}
use Rattle.std.proofs.lemmas.Bool.{ltb-false}
use Rattle.std.proofs.lemmas.Bool.Decides.{nat_tests}
use Rattle.std.proofs.lemmas.Cmp.{nat_cmp_total}
use Rattle.std.proofs.lemmas.List.{append-nil, get_or-take, get_or-drop, length-drop, length-take, take-append-drop}
use Rattle.std.proofs.lemmas.List.Elements.{filter-append, filter_passes}
use Rattle.std.proofs.lemmas.List.Kept.{IsNonDecreasingBy-filter}
use Rattle.std.proofs.lemmas.List.Sums.{count_by-le-length, length-filter}
use Rattle.dip_core.specs.declared.item.Item.{Item}
use Rattle.dip_core.specs.Item.{HasDistinctIds}
use Rattle.work_core.specs.Ranges.{has, has_begun, has_ended, is_from, range}
use Rattle.work_core.specs.declared.range.Range.{Range}
use Rattle.work_core.proofs.NumberLemmas.{from_is}
use Rattle.work_core.proofs.RangeLemmas.{filter_parted, high_has, low_has}
use Rattle.grid_core.specs.Bundles.{AreFromClass, ArePartedAt, ClassesRise, items_in}

-- a test that all elements pass keeps all
pub filter_all : {X : Type 0} (p : X → Bool) (xs : List X) → All (λ x. p x ≡ true) xs → filter p xs ≡ xs
filter_all p [] each = refl
filter_all p (x ∷ xs) each =
    rw (each 0 x (omega arith)) (ap (λ ys. x ∷ ys) (filter_all p xs (λ k d within. each (suc k) d (omega (arith, within)))))

-- a test that no element passes keeps none
pub filter_none : {X : Type 0} (p : X → Bool) (xs : List X) → All (λ x. p x ≡ false) xs → filter p xs ≡ []
filter_none p [] each = refl
filter_none p (x ∷ xs) each =
    rw (each 0 x (omega arith)) (filter_none p xs (λ k d within. each (suc k) d (omega (arith, within))))

-- two tests, one after the other
both_kept : {X : Type 0} (a b : Bool) (x : X) (xs : List X) (p : X → Bool) → p x ≡ b
    → filter p (cond a (x ∷ xs) xs) ≡ cond (a && b) (x ∷ filter p xs) (filter p xs)
both_kept true true x xs p is = rw is refl
both_kept true false x xs p is = rw is refl
both_kept false b x xs p is = refl

pub filter_both : {X : Type 0} (p q : X → Bool) (xs : List X) → filter p (filter q xs) ≡ filter (λ x. q x && p x) xs
filter_both p q [] = refl
filter_both {X} p q (x ∷ xs) =
    both_kept (q x) (p x) x (filter q xs) p refl
    ∙ ap (λ (ys : List X). cond (q x && p x) (x ∷ ys) ys) (filter_both p q xs)

-- equal tests keep the same elements
filter_same : {X : Type 0} (p q : X → Bool) (xs : List X) → ((x : X) → p x ≡ q x) → filter p xs ≡ filter q xs
filter_same p q [] same = refl
filter_same {X} p q (x ∷ xs) same = rw (same x) (ap (λ (ys : List X). cond (q x) (x ∷ ys) ys) (filter_same p q xs same))

-- the items from a class on
pub from_filter : (class : ℕ) (items high : List Item) → AreFromClass class items high
    → high ≡ filter (λ (x : Item). has_begun nat_cmp (Some class) x.class) items
from_filter class items high are =
    let test : Item → Bool = λ x. has_begun nat_cmp (Some class) x.class in
    sym (ap (λ (xs : List Item). filter test xs) are.whole
    ∙ (filter-append test are.low high
    ∙ (ap (λ (xs : List Item). xs ++ filter test high)
    (filter_none test are.low
    (λ k d within. let below = are.below k d within in
    let is = from_is class (slice_index_or are.low k d).class in grind (arith, nat_tests, below, is)))
    ∙ filter_all test high
    (λ k d within. let from = are.from k d within in
    let is = from_is class (slice_index_or high k d).class in grind (arith, nat_tests, from, is)))))

-- the items before the partition point of a test for lower classes
pub before_filter : (class : ℕ) (items : List Item) (n : ℕ) → n ≤ length items
    → IsPartitionPoint (λ y. ltb y.class class ≡ true) (λ y. ltb y.class class ≡ false) items n
    → take n items ≡ filter (λ (x : Item). not (has_ended nat_cmp (Some class) x.class)) items
before_filter class items n inside point =
    let test : Item → Bool = λ x. not (has_ended nat_cmp (Some class) x.class) in
    sym (ap (λ (xs : List Item). filter test xs) (sym (take-append-drop n items))
    ∙ (filter-append test (take n items) (drop n items)
    ∙ (ap (λ (xs : List Item). xs ++ filter test (drop n items))
    (filter_all test (take n items) (λ k d h.
    let within : k < n = omega (arith, h, inside, length-take n items) in
    subst (λ (x : Item). test x ≡ true) (sym (get_or-take n items k d within))
    (let below = ltb-true (get_or items k d).class class (point.0 k d (omega arith) within) in
    let is = from_is class (get_or items k d).class in grind (arith, nat_tests, below, is))))
    ∙ (ap (λ (xs : List Item). take n items ++ xs) (filter_none test (drop n items) (λ k d h.
    let within : n + k < length items = omega (arith, h, inside, length-drop n items) in
    subst (λ (x : Item). test x ≡ false) (sym (get_or-drop n items k d))
    (let from = ltb-false (get_or items (n + k) d).class class (point.1 (n + k) d (omega arith) within) in
    let is = from_is class (get_or items (n + k) d).class in grind (arith, nat_tests, from, is))))
    ∙ append-nil (take n items)))))

-- a second test keeps no more elements
kept_fewer : {X : Type 0} (a b : Bool) (x : X) (ys zs : List X) → length ys ≤ length zs
    → length (cond (a && b) (x ∷ ys) ys) ≤ length (cond b (x ∷ zs) zs)
kept_fewer true true x ys zs fewer = omega (arith, fewer)
kept_fewer true false x ys zs fewer = fewer
kept_fewer false true x ys zs fewer = omega (arith, fewer)
kept_fewer false false x ys zs fewer = fewer

both_fewer : {X : Type 0} (p q : X → Bool) (xs : List X) → length (filter (λ x. q x && p x) xs) ≤ length (filter p xs)
both_fewer p q [] = omega arith
both_fewer {X} p q (x ∷ xs) =
    kept_fewer (q x) (p x) x (filter (λ (y : X). q y && p y) xs) (filter p xs) (both_fewer p q xs)

count_by-filter : {X : Type 0} (p q : X → Bool) (xs : List X) → count_by p (filter q xs) ≤ count_by p xs
count_by-filter {X} p q xs =
    let same = ap (λ (ys : List X). length ys) (filter_both p q xs) in
    omega (arith, length-filter p (filter q xs), length-filter p xs, same, both_fewer p q xs)

module _ (r : Range ℕ) (items : List Item) where
  -- their number is at most the number of all items
  pub in-few : length (items_in r items) ≤ length items
  in-few =
      let test : Item → Bool = λ x. has nat_cmp r x.class in
      omega (arith, length-filter test items, count_by-le-length test items)

  -- their classes are still in ascending order
  pub in-rise : ClassesRise items → ClassesRise (items_in r items)
  in-rise rise = IsNonDecreasingBy-filter (λ (x : Item). x.class) (λ (x : Item). has nat_cmp r x.class) items rise

  -- and their ids are distinct if all ids are
  pub in-distinct : HasDistinctIds items → HasDistinctIds (items_in r items)
  in-distinct distinct = λ i.
      (let fewer = count_by-filter (λ (x : Item). x.id == i) (λ (x : Item). has nat_cmp r x.class) items in
      let one = distinct i in omega (arith, fewer, one))

-- items in a range that ends before a class have lower classes
pub in-below : (from : Option ℕ) (at : ℕ) (items : List Item)
    → All (λ (x : Item). x.class < at) (items_in (range from (Some at)) items)
in-below from at items k d h =
    let low : Item → Bool = λ x. has nat_cmp (range from (Some at)) x.class in
    let passes = filter_passes low items k d h in
    let x = slice_index_or (filter low items) k d in
    let is = from_is at x.class in
    let both = low_has nat_cmp nat_cmp_total from at x.class in
    grind (arith, nat_tests, passes, is, both)

-- and items in a range that begins at a class have that class or higher ones
pub in-from : (at : ℕ) (items : List Item) → All (λ (x : Item). at ≤ x.class) (items_in (range (Some at) None) items)
in-from at items k d h =
    let high : Item → Bool = λ x. has nat_cmp (range (Some at) None) x.class in
    let passes = filter_passes high items k d h in
    let x = slice_index_or (filter high items) k d in
    let is = from_is at x.class in
    let both = high_has nat_cmp nat_cmp_total None at x.class refl in
    grind (arith, nat_tests, passes, is, both)

-- a range without an end, split at a class within it
pub in-parted : (from : Option ℕ) (at : ℕ) (items : List Item) → ClassesRise items → has_begun nat_cmp from at ≡ true
    → ArePartedAt at (items_in (range from None) items) (items_in (range from (Some at)) items)
    (items_in (range (Some at) None) items)
in-parted from at items rise begun =
    let all : Item → Bool = λ x. has nat_cmp (range from None) x.class in
    let late : Item → Bool = λ x. is_from nat_cmp at x.class in
    let low : Item → Bool = λ x. has nat_cmp (range from (Some at)) x.class in
    let high : Item → Bool = λ x. has nat_cmp (range (Some at) None) x.class in
    record {
      whole = filter_parted all late items (λ i j d before within first.
          (let rises = rise i j d (omega (arith, before)) within in
          let one = from_is at (slice_index_or items i d).class in
          let other = from_is at (slice_index_or items j d).class in grind (arith, nat_tests, rises, one, other, first)))
          ∙ (ap (λ (xs : List Item). xs ++ filter (λ (x : Item). all x && late x) items)
          (filter_same (λ (x : Item). all x && not (late x)) low items (λ x. sym (low_has nat_cmp nat_cmp_total from at x.class)))
          ∙ ap (λ (xs : List Item). filter low items ++ xs)
          (filter_same (λ (x : Item). all x && late x) high items
          (λ x. sym (high_has nat_cmp nat_cmp_total from at x.class begun))));
      below = in-below from at items;
      from = in-from at items;
    }
