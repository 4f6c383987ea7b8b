-- The lists of all partitions of the items together.
use Rattle.std.proofs.Common.{◌≤◌, ℕ, List, [], ◌∷◌, ◌++◌, Option, Some, None, Result, Ok, take, drop, AllPairs, inl, inr, sym, subst, arith, append-nil}
use Rattle.std.specs.Ordering.{nat_cmp}
use Rattle.std.specs.declared.alloc.AllocError.{AllocError}
use Rattle.std.specs.Global.{Vec}
use Rattle.std.specs.Prelude.{Contains}
use Rattle.std.proofs.lemmas.List.{take-append-drop}
use Rattle.std.proofs.lemmas.List.Elements.{Contains-append_left, Contains-append_right}
use Rattle.dip_core.specs.declared.item.Item.{Item}
use Rattle.list_core.specs.Chunks.{all_in}
use Rattle.list_core.proofs.RisingLemmas.{AllPairs-head, AllPairs-tail, Contains-cons_cases, Contains-none}
use Rattle.list_core.proofs.WantedLemmas.{AllPairs-before}
use Rattle.round_core.specs.declared.class_steps.ClassSteps.{ClassSteps}
use Rattle.work_core.specs.Pieces.{items_within, piece_before, piece_from}
use Rattle.work_core.specs.Ranges.{range}
use Rattle.work_core.specs.Shares.{Gives, GivesFrom}
use Rattle.work_core.specs.declared.range.Range.{Range}
use Rattle.work_core.specs.declared.shares.Cut.{Cut}
use Rattle.work_core.proofs.PieceLemmas.{piece_cut}
use Rattle.work_core.proofs.ShareLemmas.{all_come}
use Rattle.round_core.specs.ClassLists.{AreOfItems, AreStepLists, RisesFrom}
use Rattle.round_core.proofs.RunLemmas.{AllPairs-behind, stand_more, of_items_more}

-- No item has a higher class than a later one.
abbrev Rise : List Item → Type 0
Rise items = AllPairs (λ (a b : Item). a.class ≤ b.class) items

AllPairs-front : (xs ys : List Item) → Rise (xs ++ ys) → Rise xs
AllPairs-front [] ys h = λ i j d below inside. absurd (omega arith)
AllPairs-front (x ∷ xs) ys h =
    AllPairs-before (λ (a b : Item). a.class ≤ b.class) x xs
    (λ y k.
    AllPairs-head (λ (a b : Item). a.class ≤ b.class) x (xs ++ ys) y h (Contains-append_left xs ys y k))
    (AllPairs-front xs ys (AllPairs-tail (λ (a b : Item). a.class ≤ b.class) x (xs ++ ys) h))

-- No item of the first list has a higher class than one of the second.
abbrev IsBelow : List Item → List Item → Type 0
IsBelow xs ys = (x y : Item) → Contains xs x → Contains ys y → x.class ≤ y.class

below_across : (xs ys : List Item) → Rise (xs ++ ys) → IsBelow xs ys
below_across [] ys h x y j k = absurd (Contains-none x j)
below_across (z ∷ zs) ys h x y j k = elim (Contains-cons_cases z zs x j) [
  | inl e ↦
      subst (λ (v : Item). v.class ≤ y.class) e
      (AllPairs-head (λ (a b : Item). a.class ≤ b.class) z (zs ++ ys) y h (Contains-append_right zs ys y k))
  | inr later ↦
      below_across zs ys (AllPairs-tail (λ (a b : Item). a.class ≤ b.class) z (zs ++ ys) h) x y later k
]

-- lists of the classes of items that are not below `least`
rise_from_least : (least : ℕ) (ys : List Item) (ms : List ClassSteps)
    → ((y : Item) → Contains ys y → least ≤ y.class) → AreOfItems ys ms → RisesFrom 0 ms → RisesFrom least ms
rise_from_least least ys [] above are r = tt
rise_from_least least ys (m ∷ ms) above are r =
    (subst (λ (n : ℕ). least ≤ n) are.0.class_is (above are.0.item are.0.item_in), r.1)

rise_behind : (least : ℕ) (xs ys : List Item) (ls ms : List ClassSteps)
    → ((y : Item) → Contains ys y → least ≤ y.class) → IsBelow xs ys → AreOfItems xs ls → AreOfItems ys ms
    → RisesFrom least ls → RisesFrom 0 ms → RisesFrom least (ls ++ ms)
rise_behind least xs ys [] ms above below a b r s = rise_from_least least ys ms above b s
rise_behind least xs ys (l ∷ ls) ms above below a b r s = (
  r.0,
  rise_behind l.class xs ys ls ms
      (λ y k. subst (λ (n : ℕ). n ≤ y.class) a.0.class_is (below a.0.item y a.0.item_in k)) below a.1 b r.1 s,
)

-- ---- partitions of the items by index

-- a partition of items in ascending order of class is in that order
pub piece_rises : (places : Range ℕ) (items : List Item) → Rise items → Rise (items_within places items)
piece_rises places items rise = behind places.from (piece_before places.before items) (front places.before items rise)
  where
    front : (end : Option ℕ) (xs : List Item) → Rise xs → Rise (piece_before end xs)
    front None xs h = h
    front (Some n) xs h = AllPairs-front (take n xs) (drop n xs) (subst Rise (sym (take-append-drop n xs)) h)

    behind : (start : Option ℕ) (xs : List Item) → Rise xs → Rise (piece_from start xs)
    behind None xs h = h
    behind (Some n) xs h = AllPairs-behind (take n xs) (drop n xs) (subst Rise (sym (take-append-drop n xs)) h)

-- the lists of steps of items, followed by those of later items
lists_more : (xs ys : List Item) (ls ms : List ClassSteps) → Rise (xs ++ ys) → AreStepLists xs ls → AreStepLists ys ms
    → AreStepLists (xs ++ ys) (ls ++ ms)
lists_more xs ys ls ms grouped one other = record {
  stand = stand_more xs ys ls ms one.stand other.stand;
  rise = rise_behind 0 xs ys ls ms (λ y k. omega arith) (below_across xs ys grouped) one.classes other.classes one.rise
      other.rise;
  classes = of_items_more xs ys ls ms one.classes other.classes;
}

-- the lists of all partitions together are the lists of all items
pub shares-lists : (items : List Item) (post : Range ℕ → ℕ → Result (Vec ClassSteps) AllocError → Type 0)
    (cuts : List (Cut ℕ)) (shares : List (Vec ClassSteps)) → Rise items
    → ((places : Range ℕ) (n : ℕ) (lists : Vec ClassSteps) → post places n (Ok lists)
    → AreStepLists (items_within places items) lists.items) → GivesFrom nat_cmp (Gives post) None cuts shares
    → AreStepLists items (all_in shares)
shares-lists items post cuts shares rise known given =
    all_come nat_cmp (Gives post)
    (λ (places : Range ℕ) (some : List (Vec ClassSteps)). AreStepLists (items_within places items) (all_in some))
    (λ places lists own. subst (AreStepLists (items_within places items)) (sym (append-nil lists.items)) (known places own.0 lists own.1))
    (λ from at lists more begun one others.
    let whole = piece_cut from at items begun in
    subst (λ (xs : List Item). AreStepLists xs (lists.items ++ all_in more)) (sym whole)
    (lists_more (items_within (range from (Some at)) items) (items_within (range (Some at) None) items) lists.items (all_in more)
    (subst Rise whole (piece_rises (range from None) items rise)) (known (range from (Some at)) one.0 lists one.1) others))
    None cuts shares given
