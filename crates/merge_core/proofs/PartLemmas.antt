-- Chains without their first items, and chains as lists whose items end before each later one starts.
use Rattle.std.proofs.Common.{◌≡◌, ◌⊎◌, ℕ, suc, ◌+◌, ◌-◌, ◌<◌, ◌≤◌, All, true, false, int_lt, List, ◌∷◌, inl, inr, length, min, take, drop, get_or, refl, sym, subst, arith}
use Rattle.std.specs.Prelude.{ℤ, ◌≤ℤ◌, ◌<ℤ◌, AllPairs, Contains}
use Rattle.std.specs.List.Sorted.{IsPartitionPoint, IsPartitionedBy}
use Rattle.std.proofs.lemmas.Int.{ints}
use Rattle.std.proofs.lemmas.List.{get_or-take, length-take, length-drop, take_all, take-append-drop}
use Rattle.std.proofs.lemmas.List.Elements.{All-contains}
use Rattle.dip_core.specs.declared.item.Item.{Item}
use Rattle.dip_core.specs.Item.{IsChain}
use Rattle.dip_core.proofs.ChainLemmas.{chain_far}
use Rattle.list_core.proofs.RisingLemmas.{AllPairs-head}
use Rattle.merge_core.specs.Sweep.{PassesUpto, has_ended}

-- each item ends at or before the start of each later one
pub AllPairs-from_chain : (items : List Item) → IsChain items
    → AllPairs (λ (x y : Item). x.period.to ≤ℤ y.period.from) items
AllPairs-from_chain items chain i j d below within = chain_far items chain i j d below within

pub IsChain-tail : (x : Item) (items : List Item) → IsChain (x ∷ items) → IsChain items
IsChain-tail x items chain i d h =
    let e : suc i + 1 ≡ suc (i + 1) = omega arith in
    rw e at (chain (suc i) d (omega arith))

-- the first item of a chain ends at or before the start of each other item
pub chain_head : (x : Item) (items : List Item) → IsChain (x ∷ items) → (z : Item) → Contains items z
    → x.period.to ≤ℤ z.period.from
chain_head x items chain z h =
    AllPairs-head (λ (u v : Item). u.period.to ≤ℤ v.period.from) x items z (AllPairs-from_chain (x ∷ items) chain) h

-- ---- the items that have ended by an instant

-- the boolean test implies the fact
ended-from_test : (point : ℤ) (x : Item) → has_ended point x ≡ true → x.period.to ≤ℤ point
ended-from_test point x e = grind (arith, ints)

test-from_ended : (point : ℤ) (x : Item) → x.period.to ≤ℤ point → has_ended point x ≡ true
test-from_ended point x h = let e : int_lt point x.period.to ≡ false = grind (arith, ints) in rw e refl

-- in a chain, each item before an ended one has ended too
ended-before : (point : ℤ) (items : List Item) → IsChain items → (i j : ℕ) (d : Item) → i ≤ j → j < length items
    → (get_or items j d).period.to ≤ℤ point → (get_or items i d).period.to ≤ℤ point
ended-before point items chain i j d upto within ended =
    elim (equal_or_less i j upto) [
      | inl e ↦ subst (λ (k : ℕ). (get_or items k d).period.to ≤ℤ point) (sym e) ended
      | inr less ↦ (
          let far : (get_or items i d).period.to ≤ℤ (get_or items j d).period.from =
          chain_far items chain i j d less within in
          let proper : (get_or items j d).period.from <ℤ (get_or items j d).period.to =
          (get_or items j d).period.ordered in
          omega (arith, ints))
    ]
  where
    equal_or_less : (m n : ℕ) → m ≤ n → (m ≡ n) ⊎ (m < n)
    equal_or_less m n h = grind arith

-- so the ended items are a prefix
pub IsPartitionedBy-ended : (point : ℤ) (items : List Item) (m : ℕ) → IsChain items
    → IsPartitionedBy (λ (x : Item). has_ended point x) (take m items)
IsPartitionedBy-ended point items m chain i j d upto within passes =
    let near : j < min m (length items) = subst (λ (n : ℕ). j < n) (length-take m items) within in
    let here : j < m = omega (arith, near) in
    let there : j < length items = omega (arith, near) in
    let at_j = get_or-take m items j d here in
    let at_i = get_or-take m items i d (omega (arith, upto, here)) in
    let ended : (get_or items j d).period.to ≤ℤ point =
    ended-from_test point (get_or items j d) (subst (λ (x : Item). has_ended point x ≡ true) at_j passes) in
    subst (λ (x : Item). has_ended point x ≡ true) (sym at_i)
    (test-from_ended point (get_or items i d) (ended-before point items chain i j d upto there ended))

-- the items before the partition point have ended
pub ended-from_point : (point : ℤ) (items : List Item) (m n : ℕ) → n ≤ length (take m items)
    → IsPartitionPoint (λ y. has_ended point y ≡ true) (λ y. has_ended point y ≡ false) (take m items) n
    → All (λ (x : Item). x.period.to ≤ℤ point) (take n items)
ended-from_point point items m n inside at k d h =
    let near : n ≤ min m (length items) = subst (λ (z : ℕ). n ≤ z) (length-take m items) inside in
    let len : length (take n items) ≡ min n (length items) = length-take n items in
    let within : k < n = omega (arith, h, len) in
    let here : get_or (take m items) k d ≡ get_or items k d = get_or-take m items k d (omega (arith, within, near)) in
    let there : get_or (take n items) k d ≡ get_or items k d = get_or-take n items k d within in
    subst (λ (x : Item). x.period.to ≤ℤ point) (sym there)
    (ended-from_test point (get_or items k d)
    (subst (λ (x : Item). has_ended point x ≡ true) here (at.0 k d (omega arith) within)))

-- the first `n` items are passed
passes_ended : (point : ℤ) (items : List Item) (n : ℕ) → n ≤ length items
    → All (λ (x : Item). x.period.to ≤ℤ point) (take n items) → PassesUpto point items (drop n items) n
passes_ended point items n inside ended = record {
  passed = take n items;
  split = sym (take-append-drop n items);
  over = λ y h. All-contains (λ (x : Item). x.period.to ≤ℤ point) (take n items) y ended h;
  count = omega (arith, inside, length-drop n items);
}

-- the same for a slice from index `n` on
pub passes_sliced : (point : ℤ) (items : List Item) (n : ℕ) → n ≤ length items
    → All (λ (x : Item). x.period.to ≤ℤ point) (take n items)
    → PassesUpto point items (take (length items - n) (drop n items)) n
passes_sliced point items n inside ended =
    let len : length (drop n items) ≡ length items - n = length-drop n items in
    subst (λ (z : List Item). PassesUpto point items z n)
    (sym (take_all (length items - n) (drop n items) (omega (arith, len))))
    (passes_ended point items n inside ended)
