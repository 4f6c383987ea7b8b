-- Items by start, cut at an instant.
use Rattle.std.proofs.Common.{◌≡◌, ◌⊎◌, ℕ, ◌+◌, ◌<◌, ◌≤◌, ℤ, ◌≤ℤ◌, ◌<ℤ◌, true, false, List, [], ◌∷◌, ◌++◌, inl, inr, length, take, drop, get_or, sym, subst, ap, ◌∙◌, arith}
use Rattle.std.specs.Prelude.{IsSorted, int_lt}
use Rattle.std.specs.Ordering.{is_lt}
use Rattle.std.specs.List.Sorted.{IsPartitionPoint, IsPartitionedBy}
use Rattle.std.proofs.lemmas.Int.{ints}
use Rattle.std.proofs.lemmas.List.{get_or-take, get_or-drop, length-drop, length-take, take-append-drop}
use Rattle.std.proofs.lemmas.List.Sorted.{ranks_by, sorted_far}
use Rattle.list_core.proofs.RisingLemmas.{AllPairs-tail}
use Rattle.dip_core.specs.declared.item.Item.{Item}
use Rattle.dip_core.specs.Item.{item_cmp}
use Rattle.dip_core.proofs.OrderLemmas.{from_le, item_total}
use Rattle.join_core.specs.Tiles.{AreCutAt, StartsRise}

-- sorted items are in order of start
pub StartsRise-sorted : (items : List Item) → IsSorted item_cmp items → StartsRise items
StartsRise-sorted items sorted i j d below inside =
    from_le (get_or items i d) (get_or items j d)
    (λ less.
    (let never : is_lt (item_cmp (get_or items j d) (get_or items i d)) ≡ false =
    sorted_far (λ (x y : Item). is_lt (item_cmp x y)) (ranks_by item_total (λ (x : Item). x)) items sorted i j d
    (omega arith) inside in
    let turned : true ≡ false = sym (ap is_lt less) ∙ never in
    cc))

-- a suffix of items in order of start is in order of start
pub StartsRise-back : (xs ys : List Item) → StartsRise (xs ++ ys) → StartsRise ys
StartsRise-back [] ys rise = rise
StartsRise-back (z ∷ zs) ys rise =
    StartsRise-back zs ys
    (AllPairs-tail (λ (x y : Item). x.period.from ≤ℤ y.period.from) z (zs ++ ys) rise)

-- the items that start before an instant are a prefix
pub IsPartitionedBy-start : (cut : ℤ) (items : List Item) → StartsRise items
    → IsPartitionedBy (λ (x : Item). int_lt x.period.from cut) items
IsPartitionedBy-start cut items rise i j d upto within passes =
    elim (equal_or_less i j upto) [
      | inl e ↦ subst (λ (k : ℕ). int_lt (get_or items k d).period.from cut ≡ true) (sym e) passes
      | inr less ↦ (
          let on : (get_or items i d).period.from ≤ℤ (get_or items j d).period.from = rise i j d less within in
          let early : (get_or items j d).period.from <ℤ cut = grind (arith, ints) in
          grind (arith, ints))
    ]
  where
    equal_or_less : (m n : ℕ) → m ≤ n → (m ≡ n) ⊎ (m < n)
    equal_or_less m n h = grind arith

starts-before : (cut : ℤ) (x : Item) → int_lt x.period.from cut ≡ true → x.period.from <ℤ cut
starts-before cut x e = grind (arith, ints)

starts-later : (cut : ℤ) (x : Item) → int_lt x.period.from cut ≡ false → cut ≤ℤ x.period.from
starts-later cut x e = grind (arith, ints)

-- the items before and after the point from which the test fails
pub AreCutAt-point : (cut : ℤ) (items started later : List Item) (n : ℕ) → n ≤ length items
    → IsPartitionPoint (λ y. int_lt y.period.from cut ≡ true) (λ y. int_lt y.period.from cut ≡ false) items n
    → started ≡ take n items → later ≡ drop n items → AreCutAt cut items started later
AreCutAt-point cut items started later n inside point front back = rw (front, back) (record {
  whole = sym (take-append-drop n items);
  before = λ k d h.
      let within : k < n = omega (arith, h, inside, length-take n items) in
      subst (λ (x : Item). x.period.from <ℤ cut) (sym (get_or-take n items k d within))
      (starts-before cut (get_or items k d) (point.0 k d (omega arith) within));
  from = λ k d h.
      let within : n + k < length items = omega (arith, h, inside, length-drop n items) in
      subst (λ (x : Item). cut ≤ℤ x.period.from) (sym (get_or-drop n items k d))
      (starts-later cut (get_or items (n + k) d) (point.1 (n + k) d (omega arith) within));
})
