-- The rows of all items, from the rows of some classes and of all higher ones.
use Rattle.std.proofs.Common.{◌≡◌, ◌≢◌, ◌⊎◌, ℕ, ◌+◌, ◌∷◌, ◌<◌, ◌≤◌, ℤ, All, Some, List, [], ◌++◌, length, get_or, sym, subst, ap, ◌∙◌, refl, inl, inr, arith, append-nil}
use Rattle.std.specs.Prelude.{Contains, AllPairs, slice_get}
use Rattle.std.proofs.lemmas.List.{append_assoc, length-append}
use Rattle.std.proofs.lemmas.Option.{same_Some}
use Rattle.std.proofs.lemmas.List.Elements.{All-contains, Contains-append_left, Contains-append_right, Contains-append_cases}
use Rattle.dip_core.specs.declared.item.Item.{Item}
use Rattle.dip_core.specs.Item.{HasDistinctIds}
use Rattle.list_core.proofs.WantedLemmas.{IsListOf-append, IsListOf-same}
use Rattle.dip_core.proofs.PartedLemmas.{ids-apart}
use Rattle.merge_core.specs.Gaps.{IsCovered, IsUncovered}
use Rattle.merge_core.proofs.SweepLemmas.{IsMaximal-same}
use Rattle.anti_core.specs.declared.rows.AntiRow.{AntiRow}
use Rattle.grid_core.specs.Bundles.{AreFromClass, ArePartedAt, ClassesRise}
use Rattle.grid_core.proofs.BundleLemmas.{first_lowest, from-few, from-rise, high-distinct, high-few, high-rise}
use Rattle.anti_core.specs.ItemAnti.{IsItemsAntiRow, AreItemsRows}
use Rattle.anti_core.specs.United.{StandsBefore}
use Rattle.anti_core.proofs.ItemLemmas.{AreItemsRows-none, covered-there}

-- coalesced items are in order of class
pub united-rise : (items : List Item) → AllPairs StandsBefore items → ClassesRise items
united-rise items ordered = λ i j d upto inside.
    (elim (equal_or_less i j upto) [
      | inl e ↦ subst (λ (k : ℕ). (get_or items i d).class ≤ (get_or items k d).class) e (omega arith)
      | inr less ↦ elim (ordered i j d less inside) [
        | inl lower ↦ omega (arith, lower)
        | inr (same, earlier) ↦ omega (arith, same)
      ]
    ])
  where
    equal_or_less : (m n : ℕ) → m ≤ n → (m ≡ n) ⊎ (m < n)
    equal_or_less m n h = grind arith

-- ---- the rows of a bundle, and of the items after it

-- a row of one left item is a row of the same item in another list, if the right items cover the same instants of it
row-moved : (xs ys right other : List Item) (row : AntiRow) (is : IsItemsAntiRow xs right row) → Contains ys is.x
    → ((t : ℤ) → IsCovered right is.x t → IsCovered other is.x t)
    → ((t : ℤ) → IsCovered other is.x t → IsCovered right is.x t) → IsItemsAntiRow ys other row
row-moved xs ys right other row is there to back = record {
  x = is.x;
  x_in = there;
  id = is.id;
  maximal = IsMaximal-same (IsUncovered right is.x) (IsUncovered other is.x) row.period
      (λ t u. record { held = u.held; uncovered = λ c. u.uncovered (back t c) })
      (λ t u. record { held = u.held; uncovered = λ c. u.uncovered (to t c) })
      is.maximal;
}

module _ (class : ℕ) (left low_left high_left right low_right high_right : List Item)
    (lefts : ArePartedAt class left low_left high_left)
    (rights : ArePartedAt class right low_right high_right) where
  -- right items of higher classes don't cover an item of a lower one
  covered-low : (x : Item) → Contains low_left x → (t : ℤ) → IsCovered (low_right ++ high_right) x t
      → IsCovered low_right x t
  covered-low x h t is = elim (Contains-append_cases low_right high_right is.by is.by_in) [
    | inl k ↦ record { by = is.by; by_in = k; matches = is.matches; holds = is.holds }
    | inr k ↦
        let low : x.class < class = All-contains (λ (y : Item). y.class < class) low_left x lefts.below h in
        let high : class ≤ is.by.class =
        All-contains (λ (y : Item). class ≤ y.class) high_right is.by rights.from k in
        let same : is.by.class ≡ x.class = is.matches in
        absurd (omega (arith, low, high, same))
  ]

  -- and vice versa
  covered-high : (x : Item) → Contains high_left x → (t : ℤ) → IsCovered (low_right ++ high_right) x t
      → IsCovered high_right x t
  covered-high x h t is = elim (Contains-append_cases low_right high_right is.by is.by_in) [
    | inl k ↦
        let high : class ≤ x.class = All-contains (λ (y : Item). class ≤ y.class) high_left x lefts.from h in
        let low : is.by.class < class =
        All-contains (λ (y : Item). y.class < class) low_right is.by rights.below k in
        let same : is.by.class ≡ x.class = is.matches in
        absurd (omega (arith, low, high, same))
    | inr k ↦ record { by = is.by; by_in = k; matches = is.matches; holds = is.holds }
  ]

  -- an instant that one of both lists covers is covered by both together
  low-covered : (x : Item) (t : ℤ) → IsCovered low_right x t → IsCovered (low_right ++ high_right) x t
  low-covered x t is =
      covered-there low_right (low_right ++ high_right) (Contains-append_left low_right high_right) x t is

  high-covered : (x : Item) (t : ℤ) → IsCovered high_right x t → IsCovered (low_right ++ high_right) x t
  high-covered x t is =
      covered-there high_right (low_right ++ high_right) (Contains-append_right low_right high_right) x t is

  -- the rows of both
  rows-together : (rows more : List AntiRow) → HasDistinctIds (low_left ++ high_left)
      → AreItemsRows low_left low_right rows → AreItemsRows high_left high_right more
      → AreItemsRows (low_left ++ high_left) (low_right ++ high_right) (rows ++ more)
  rows-together rows more distinct one other =
      IsListOf-append (λ (a b : AntiRow). a ≢ b) (IsItemsAntiRow low_left low_right)
      (IsItemsAntiRow high_left high_right)
      (IsItemsAntiRow (low_left ++ high_left) (low_right ++ high_right)) rows more one other
      (λ a b i j same.
      ids-apart low_left high_left i.x j.x distinct i.x_in j.x_in (sym i.id ∙ ap (λ (v : AntiRow). v.id) same ∙ j.id))
      (λ row is.
      row-moved low_left (low_left ++ high_left) low_right (low_right ++ high_right) row is
      (Contains-append_left low_left high_left is.x is.x_in) (low-covered is.x) (covered-low is.x is.x_in))
      (λ row is.
      row-moved high_left (low_left ++ high_left) high_right (low_right ++ high_right) row is
      (Contains-append_right low_left high_left is.x is.x_in) (high-covered is.x) (covered-high is.x is.x_in))
      (λ row is. elim (Contains-append_cases low_left high_left is.x is.x_in) [
        | inl k ↦ inl (row-moved (low_left ++ high_left) low_left (low_right ++ high_right) low_right row is k
            (covered-low is.x k) (low-covered is.x))
        | inr k ↦ inr (row-moved (low_left ++ high_left) high_left (low_right ++ high_right) high_right row is k
            (covered-high is.x k) (high-covered is.x))
      ])

  pub AreItemsRows-parted : (rows more : List AntiRow) → HasDistinctIds left → AreItemsRows low_left low_right rows
      → AreItemsRows high_left high_right more → AreItemsRows left right (rows ++ more)
  AreItemsRows-parted rows more distinct one other =
      subst (λ (xs : List Item). AreItemsRows xs right (rows ++ more)) (sym lefts.whole)
      (subst (λ (ys : List Item). AreItemsRows (low_left ++ high_left) ys (rows ++ more)) (sym rights.whole)
      (rows-together rows more (subst HasDistinctIds lefts.whole distinct) one other))

-- ---- without right items of lower classes

module _ (class : ℕ) (left right high : List Item) (lefts : All (λ (x : Item). class ≤ x.class) left)
    (rights : AreFromClass class right high) where
  -- right items of lower classes cover no left item
  covered-from : (x : Item) → Contains left x → (t : ℤ) → IsCovered right x t → IsCovered high x t
  covered-from x h t is =
      elim (Contains-append_cases rights.low high is.by (subst (λ (l : List Item). Contains l is.by) rights.whole is.by_in)) [
        | inl k ↦ (
            let low : is.by.class < class =
            All-contains (λ (y : Item). y.class < class) rights.low is.by rights.below k in
            let own : class ≤ x.class = All-contains (λ (y : Item). class ≤ y.class) left x lefts h in
            let same : is.by.class ≡ x.class = is.matches in
            absurd (omega (arith, low, own, same)))
        | inr k ↦ record { by = is.by; by_in = k; matches = is.matches; holds = is.holds }
      ]

  from-covered : (x : Item) (t : ℤ) → IsCovered high x t → IsCovered right x t
  from-covered x t is =
      covered-there high right (λ y h.
      subst (λ (l : List Item). Contains l y) (sym rights.whole) (Contains-append_right rights.low high y h)) x t is

  pub AreItemsRows-from : (rows : List AntiRow) → AreItemsRows left high rows → AreItemsRows left right rows
  AreItemsRows-from rows all =
      IsListOf-same (λ (a b : AntiRow). a ≢ b) (IsItemsAntiRow left high) (IsItemsAntiRow left right) rows
      (λ row is. row-moved left left high right row is is.x_in (from-covered is.x) (covered-from is.x is.x_in))
      (λ row is. row-moved left left right high row is is.x_in (covered-from is.x is.x_in) (from-covered is.x)) all

-- ---- bundle by bundle

-- The rows until now, followed by the rows of the remaining items, are all rows.
pub record IsBundling (left right lefts rights : List Item) (rows : List AntiRow) : Type 0 where
  pub goes_on : (rest : List AntiRow) → AreItemsRows lefts rights rest → AreItemsRows left right (rows ++ rest)
  pub left_few : length lefts ≤ length left
  pub right_few : length rights ≤ length right
  pub left_rise : ClassesRise lefts
  pub right_rise : ClassesRise rights
  pub ids : HasDistinctIds lefts

-- at first all items remain
pub bundling_start : (left right : List Item) (rows : List AntiRow) → rows ≡ [] → ClassesRise left → ClassesRise right
    → HasDistinctIds left → IsBundling left right left right rows
bundling_start left right rows none left_rise right_rise ids =
    subst (IsBundling left right left right) (sym none) (record {
      goes_on = λ rest all. all;
      left_few = omega arith;
      right_few = omega arith;
      left_rise = left_rise;
      right_rise = right_rise;
      ids = ids;
    })

-- right items of classes below the next left item's class are left out
pub bundling_from : (left right lefts rights others : List Item) (first : Item) (rows : List AntiRow)
    → Some first ≡ slice_get lefts 0 → AreFromClass first.class rights others
    → IsBundling left right lefts rights rows → IsBundling left right lefts others rows
bundling_from left right lefts rights others first rows e are i = record {
  goes_on = λ rest all.
      i.goes_on rest
      (AreItemsRows-from first.class lefts rights others (first_lowest lefts first e i.left_rise) are rest all);
  left_few = i.left_few;
  right_few = (let most = i.right_few in
      let few = from-few first.class rights others are in
      omega (arith, most, few));
  left_rise = i.left_rise;
  right_rise = from-rise first.class rights others are i.right_rise;
  ids = i.ids;
}

-- one more bundle
pub bundling_more : (left right lefts rights low_left high_left low_right high_right : List Item) (class : ℕ)
    (old found new : List AntiRow) → ArePartedAt class lefts low_left high_left
    → ArePartedAt class rights low_right high_right → AreItemsRows low_left low_right found → new ≡ old ++ found
    → IsBundling left right lefts rights old → IsBundling left right high_left high_right new
bundling_more left right lefts rights low_left high_left low_right high_right class old found new one other rows e i =
    subst (IsBundling left right high_left high_right) (sym e) (record {
      goes_on = λ rest all.
          subst (AreItemsRows left right) (sym (append_assoc old found rest))
          (i.goes_on (found ++ rest)
          (AreItemsRows-parted class lefts low_left high_left rights low_right high_right one other found rest i.ids
          rows all));
      left_few = (let most = i.left_few in
          let few = high-few class lefts low_left high_left one in
          omega (arith, most, few));
      right_few = (let most = i.right_few in
          let few = high-few class rights low_right high_right other in
          omega (arith, most, few));
      left_rise = high-rise class lefts low_left high_left one i.left_rise;
      right_rise = high-rise class rights low_right high_right other i.right_rise;
      ids = high-distinct class lefts low_left high_left one i.ids;
    })

-- at the end no left item remains
pub bundling_end : (left right lefts rights : List Item) (rows : List AntiRow) → lefts ≡ []
    → IsBundling left right lefts rights rows → AreItemsRows left right rows
bundling_end left right lefts rights rows none i =
    subst (AreItemsRows left right) (append-nil rows)
    (i.goes_on []
    (subst (λ (xs : List Item). AreItemsRows xs rights []) (sym none) (AreItemsRows-none rights [] refl)))

-- fewer items remain after the first item's class
pub fewer_behind : (class : ℕ) (first : Item) (items low high : List Item) → Some first ≡ slice_get items 0
    → first.class ≤ class → ArePartedAt (class + 1) items low high → length high < length items
fewer_behind class first items (y ∷ low) high starts least parted =
    let all = ap length parted.whole in let both = length-append low high in omega (arith, all, both)
fewer_behind class first items [] [] starts least parted =
    let none = starts ∙ ap (λ l. slice_get l 0) parted.whole in absurd cc
fewer_behind class first items [] (z ∷ high) starts least parted =
    let at = starts ∙ ap (λ l. slice_get l 0) parted.whole in
    let same = ap (λ (x : Item). x.class) (same_Some first z at) in
    let beyond = parted.from 0 first (omega arith) in
    absurd (omega (arith, same, least, beyond))
