-- The items of ranges of classes, and the rows of all items from the rows of each range.
use Rattle.std.proofs.Common.{◌≡◌, ◌≢◌, ◌∙◌, ℕ, Bool, true, false, not, ◌&&◌, List, ◌++◌, Option, Some, None, filter, refl, sym, subst, arith, append-nil, slice_index_or}
use Rattle.std.specs.Prelude.{IsPermutation}
use Rattle.std.specs.Global.{Vec}
use Rattle.std.specs.Ordering.{nat_cmp}
use Rattle.std.proofs.lemmas.Bool.Decides.{nat_tests}
use Rattle.std.proofs.lemmas.Cmp.{nat_cmp_total}
use Rattle.std.proofs.lemmas.List.Elements.{filter_agree, filter_passes}
use Rattle.std.proofs.lemmas.List.Sorted.{IsPermutation-filter_both}
use Rattle.dip_core.specs.declared.item.Item.{Item}
use Rattle.dip_core.specs.Item.{HasDistinctIds}
use Rattle.dip_core.proofs.DivisionLemmas.{HasDistinctIds-permutation}
use Rattle.list_core.specs.Chunks.{all_in}
use Rattle.work_core.specs.Ranges.{has, has_begun, is_from, range}
use Rattle.work_core.specs.Shares.{GivesFrom}
use Rattle.work_core.specs.declared.range.Range.{Range}
use Rattle.work_core.specs.declared.shares.Cut.{Cut}
use Rattle.work_core.proofs.NumberLemmas.{from_is}
use Rattle.work_core.proofs.RangeLemmas.{high_has, low_has}
use Rattle.work_core.proofs.ShareLemmas.{all_come}
use Rattle.grid_core.specs.Bundles.{ArePartedAt, items_in}
use Rattle.grid_core.proofs.RangeItems.{filter_all, filter_both, in-below, in-distinct, in-from}
use Rattle.anti_core.specs.declared.rows.AntiRow.{AntiRow}
use Rattle.anti_core.specs.ItemAnti.{AreItemsRows}
use Rattle.anti_core.proofs.BundleLemmas.{AreItemsRows-parted}
use Rattle.anti_core.proofs.ItemLemmas.{rows-permutation}

-- the range without ends contains all items
in_all : (items : List Item) → items_in (range None None) items ≡ items
in_all items = filter_all (λ (x : Item). has nat_cmp (range None None) x.class) items (λ k d within. refl)

-- double negation
twice_not : (b : Bool) → b ≡ not (not b)
twice_not true = refl
twice_not false = refl

-- ---- a range without an end, split at a class within it

module _ (from : Option ℕ) (at : ℕ) (begun : has_begun nat_cmp from at ≡ true) where
  -- the items of both halves are all items
  range_moved : (items : List Item)
      → IsPermutation (items_in (range from None) items)
      (items_in (range from (Some at)) items ++ items_in (range (Some at) None) items)
  range_moved items =
      let all : Item → Bool = λ x. has nat_cmp (range from None) x.class in
      let late : Item → Bool = λ x. is_from nat_cmp at x.class in
      let early : Item → Bool = λ x. not (late x) in
      let low : Item → Bool = λ x. has nat_cmp (range from (Some at)) x.class in
      let high : Item → Bool = λ x. has nat_cmp (range (Some at) None) x.class in
      let lows : filter early (filter all items) ≡ filter low items =
      filter_both early all items
      ∙ filter_agree (λ (x : Item). all x && early x) low (λ x. sym (low_has nat_cmp nat_cmp_total from at x.class))
      items in
      let highs : filter late (filter all items) ≡ filter high items =
      filter_both late all items
      ∙ filter_agree (λ (x : Item). all x && late x) high
      (λ x. sym (high_has nat_cmp nat_cmp_total from at x.class begun)) items in
      subst (λ (ys : List Item). IsPermutation (filter all items) (ys ++ filter high items)) lows
      (subst (λ (zs : List Item). IsPermutation (filter all items) (filter early (filter all items) ++ zs)) highs
      (IsPermutation-filter_both early late (λ (x : Item). twice_not (late x)) (filter all items)))

  -- one half has lower classes than the other
  range_parted : (items : List Item)
      → ArePartedAt at (items_in (range from (Some at)) items ++ items_in (range (Some at) None) items)
      (items_in (range from (Some at)) items) (items_in (range (Some at) None) items)
  range_parted items =
      record { whole = refl; below = in-below from at items; from = in-from at items }

  -- the rows of both halves
  rows-cut : (left right : List Item) (rows more : List AntiRow) → HasDistinctIds left
      → AreItemsRows (items_in (range from (Some at)) left) (items_in (range from (Some at)) right) rows
      → AreItemsRows (items_in (range (Some at) None) left) (items_in (range (Some at) None) right) more
      → AreItemsRows (items_in (range from None) left) (items_in (range from None) right) (rows ++ more)
  rows-cut left right rows more distinct one other =
      rows-permutation (items_in (range from None) left) _ (items_in (range from None) right) _ (range_moved left)
      (range_moved right) (λ (a b : AntiRow). a ≢ b) (rows ++ more)
      (AreItemsRows-parted at _ _ _ _ _ _ (range_parted left) (range_parted right) rows more
      (HasDistinctIds-permutation (items_in (range from None) left) _ (range_moved left)
      (in-distinct (range from None) left distinct))
      one other)

-- ---- all ranges

-- The result for a range: the number of workers, the range, and the rows.
abbrev Given : List Item → List Item → Range ℕ → Vec AntiRow → Type 0
Given left right r rows = ℕ × (Range ℕ × AreItemsRows (items_in r left) (items_in r right) rows.items)

-- the rows of all ranges together are the rows of all items
pub ranges-rows : (left right : List Item) (cuts : List (Cut ℕ)) (lists : List (Vec AntiRow)) → HasDistinctIds left
    → GivesFrom nat_cmp (Given left right) None cuts lists → AreItemsRows left right (all_in lists)
ranges-rows left right cuts lists distinct given =
    subst (λ (xs : List Item). AreItemsRows xs right (all_in lists)) (in_all left)
    (subst (λ (ys : List Item). AreItemsRows (items_in (range None None) left) ys (all_in lists)) (in_all right)
    (all_come nat_cmp (Given left right)
    (λ (r : Range ℕ) (ls : List (Vec AntiRow)). AreItemsRows (items_in r left) (items_in r right) (all_in ls))
    (λ r x g.
    subst (AreItemsRows (items_in r left) (items_in r right)) (sym (append-nil x.items)) g.1.1)
    (λ from at x xs begun g rest.
    rows-cut from at begun left right x.items (all_in xs) distinct g.1.1 rest)
    None cuts lists given))
