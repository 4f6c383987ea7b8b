-- The rows of an anti-join, class by class.
use Rattle.std.proofs.Common.{◌≡◌, ◌⊎◌, ℕ, ◌+◌, ◌-◌, ◌<◌, ◌≤◌, List, [], ◌∷◌, ◌++◌, length, map, take, get_or, refl, sym, subst, ap, ◌∙◌, inl, inr, arith, append-nil, append_assoc, length-append}
use Rattle.std.specs.Prelude.{ℤ, pos, ◌-ℤ◌, ◌<ℤ◌, ◌≤ℤ◌, All, AllPairs, Contains}
use Rattle.std.proofs.lemmas.Int.{ints}
use Rattle.std.proofs.lemmas.List.{get_or_append_left}
use Rattle.std.proofs.lemmas.List.Elements.{All-contains, Contains-append_left, Contains-get_or}
use Rattle.dip_core.specs.declared.item.Item.{Item}
use Rattle.dip_core.specs.Item.{HasDistinctIds, IsChain}
use Rattle.dip_core.specs.Division.{all_of}
use Rattle.list_core.proofs.RisingLemmas.{AllPairs-tail, AllPairs-head}
use Rattle.merge_core.specs.declared.gap.Gap.{Gap}
use Rattle.merge_core.specs.Gaps.{IsCovered, ListsGaps}
use Rattle.grid_core.specs.Bundles.{AreFromClass, ArePartedAt}
use Rattle.anti_core.specs.declared.rows.AntiRow.{AntiRow}
use Rattle.anti_core.specs.ItemAnti.{AreItemsRows, IsItemsAnti, row_of_gap}
use Rattle.anti_core.specs.United.{IsUnion}
use Rattle.anti_core.proofs.ItemLemmas.{AreItemsRows-more, AreItemsRows-none}
use Rattle.dip_core.specs.Item.{item_limit}
use Rattle.ruzgalt_c.specs.Anti.{AddsAntiRows, HoldApart}
use Rattle.ruzgalt_c.specs.Rows.{AreRows, Columns}
use Rattle.ruzgalt_c.proofs.RowLemmas.{ids-within}

-- The rows of one left part are its gaps.
pub one_part-rows : (left right : List Item) (gaps : List Gap) → HasDistinctIds left → ListsGaps left right gaps
    → AreItemsRows left right (map row_of_gap gaps)
one_part-rows left right gaps ids lists =
    subst (λ (xs : List Item). AreItemsRows xs right (map row_of_gap gaps)) (append-nil left)
    (AreItemsRows-more (left ∷ []) 0 right [] (map row_of_gap gaps) gaps gaps (omega arith)
    (subst HasDistinctIds (sym (append-nil left)) ids) (AreItemsRows-none right [] refl) lists refl refl)

-- ---- right items of one class are a part

-- A coalesced item ends by the start of each later one of its class.
pub apart-united : (items united : List Item) → IsUnion items united → HoldApart united
apart-united items united u i j d less inside same =
    let a = get_or united i d in
    let b = get_or united j d in
    let earlier : a.period.from <ℤ b.period.from = (elim (u.all.ordered i j d less inside) [
      | inl lower ↦ absurd (omega (arith, lower, same))
      | inr both ↦ both.1
    ]) in
    let first = (u.all.exactly a).0 (Contains-get_or united i d (omega (arith, less, inside))) in
    let second = (u.all.exactly b).0 (Contains-get_or united j d inside) in
    elim (meets_or_not a.period.to b.period.from) [
      | inl good ↦ good
      | inr over ↦
          let t : ℤ = b.period.from -ℤ pos 1 in
          let there = first.maximal.inside t (omega (arith, ints), omega (arith, ints)) in
          absurd (second.maximal.before
          (record { by = there.by; by_in = there.by_in; matches = there.matches ∙ same; holds = there.holds }))
    ]
  where
    meets_or_not : (m n : ℤ) → (m ≤ℤ n) ⊎ (n <ℤ m)
    meets_or_not m n = grind (arith, ints)

-- The property `HoldApart` also holds for the end of a list.
pub later-apart : (xs ys : List Item) → HoldApart (xs ++ ys) → HoldApart ys
later-apart [] ys h = h
later-apart (x ∷ xs) ys h =
    later-apart xs ys (AllPairs-tail (λ (a b : Item). a.class ≡ b.class → a.period.to ≤ℤ b.period.from) x (xs ++ ys) h)

-- Items of one class that hold apart are a part.
chain-apart : (class : ℕ) (own later : List Item) → HoldApart (own ++ later)
    → All (λ (x : Item). x.class ≡ class) own → IsChain own
chain-apart class own later apart all k d h =
    let one : get_or (own ++ later) k d ≡ get_or own k d = get_or_append_left own later d k (omega arith) in
    let other : get_or (own ++ later) (k + 1) d ≡ get_or own (k + 1) d = get_or_append_left own later d (k + 1) h in
    let len = length-append own later in
    let first : (get_or own k d).class ≡ class = all k d (omega arith) in
    let second : (get_or own (k + 1) d).class ≡ class = all (k + 1) d h in
    let same : (get_or (own ++ later) k d).class ≡ (get_or (own ++ later) (k + 1) d).class =
    ap (λ (x : Item). x.class) one ∙ first ∙ sym second ∙ sym (ap (λ (x : Item). x.class) other) in
    subst (λ (x : Item). x.period.to ≤ℤ (get_or own (k + 1) d).period.from) one
    (subst (λ (y : Item). (get_or (own ++ later) k d).period.to ≤ℤ y.period.from) other
    (apart k (k + 1) d (omega arith) (omega (arith, len, h)) same))

-- The right items of the first left item's class are a part.
pub chain-own : (class : ℕ) (rights matching own later : List Item) → HoldApart rights
    → AreFromClass class rights matching → ArePartedAt (class + 1) matching own later → IsChain own
chain-own class rights matching own later apart from parted =
    let all : HoldApart (own ++ later) =
    subst HoldApart parted.whole (later-apart from.low matching (subst HoldApart from.whole apart)) in
    chain-apart class own later all (λ k d h.
    let x = get_or own k d in
    let low : class ≤ x.class = All-contains (λ (y : Item). class ≤ y.class) matching x from.from
    (subst (λ (l : List Item). Contains l x) (sym parted.whole)
    (Contains-append_left own later x (Contains-get_or own k d h))) in
    let high = parted.below k d h in
    omega (arith, low, high))

-- The index of each row is a left row's index.
pub index-few : (left : Columns) (lefts rights : List Item) (rows : List AntiRow) → AreRows left lefts
    → length left.from ≤ item_limit → IsItemsAnti lefts rights rows
    → All (λ (row : AntiRow). row.id < item_limit) rows
index-few left lefts rights rows one few anti k d h =
    let is = (anti.exactly (get_or rows k d)).0 (Contains-get_or rows k d h) in
    let x : is.x.id < length left.from =
    All-contains (λ (z : Item). z.id < length left.from) lefts is.x (ids-within left lefts one) is.x_in in
    let e : (get_or rows k d).id ≡ is.x.id = is.id in
    omega (arith, x, e, few)
