-- The number of cursor advances, step by step.
use Rattle.std.proofs.Common.{◌≡◌, ◌⊎◌, ℕ, ◌+◌, Bool, true, false, cond, ◌||◌, int_lt, List, [], ◌∷◌, ◌++◌, inl, inr, length, drop, count_by, refl, sym, subst, ap, ◌∙◌, arith}
use Rattle.std.specs.Prelude.{◌≤ℤ◌, ◌<ℤ◌, AllPairs, Contains}
use Rattle.std.specs.List.{list_any}
use Rattle.std.proofs.lemmas.Int.{ints}
use Rattle.std.proofs.lemmas.List.{length-append}
use Rattle.std.proofs.lemmas.List.Sums.{sum_by-cons}
use Rattle.dip_core.specs.declared.item.Item.{Item}
use Rattle.list_core.proofs.RisingLemmas.{AllPairs-head, Contains-head, Contains-cons, Contains-cons_cases}
use Rattle.merge_core.specs.Advances.{ended_by, ended_before, advances_of, gap_advances_of}
use Rattle.merge_core.specs.Sweep.{has_ended, PassesUpto, EndLater}

-- the tests of both counts
abbrev ends_by : Item → Item → Bool
ends_by x y = has_ended y.period.to x

abbrev ends_before : Item → Item → Bool
ends_before x y = int_lt x.period.to y.period.to

by_yes : (x y : Item) → x.period.to ≤ℤ y.period.to → ends_by x y ≡ true
by_yes x y h = let e : int_lt y.period.to x.period.to ≡ false = grind (arith, ints) in rw e refl

by_no : (x y : Item) → y.period.to <ℤ x.period.to → ends_by x y ≡ false
by_no x y h = let e : int_lt y.period.to x.period.to ≡ true = grind (arith, ints) in rw e refl

before_yes : (x y : Item) → x.period.to <ℤ y.period.to → ends_before x y ≡ true
before_yes x y h = grind (arith, ints)

before_no : (x y : Item) → y.period.to ≤ℤ x.period.to → ends_before x y ≡ false
before_no x y h = grind (arith, ints)

-- ---- the number of items that pass a test with some other item

module _ (test : Item → Item → Bool) where
  abbrev counted : List Item → List Item → ℕ
  counted others items = count_by (λ (x : Item). list_any (test x) others) items

  counted-cons : (others : List Item) (x : Item) (xs : List Item)
      → counted others (x ∷ xs) ≡ cond (list_any (test x) others) 1 0 + counted others xs
  counted-cons others x xs = sum_by-cons (λ (z : Item). cond (list_any (test z) others) 1 0) x xs

  -- without other items the count is 0
  counted-none : (xs : List Item) → counted [] xs ≡ 0
  counted-none [] = refl
  counted-none (x ∷ xs) = counted-cons [] x xs ∙ ap (λ n. 0 + n) (counted-none xs)

  -- an item that passes the test with the first other item counts
  counted-yes : (y : Item) (others : List Item) (x : Item) (xs : List Item) → test x y ≡ true
      → counted (y ∷ others) (x ∷ xs) ≡ 1 + counted (y ∷ others) xs
  counted-yes y others x xs e =
      counted-cons (y ∷ others) x xs
      ∙ ap (λ b. cond (b || list_any (test x) others) 1 0 + counted (y ∷ others) xs) e

  -- so do several such items
  counted-all : (y : Item) (others xs more : List Item) → ((x : Item) → Contains xs x → test x y ≡ true)
      → counted (y ∷ others) (xs ++ more) ≡ length xs + counted (y ∷ others) more
  counted-all y others [] more all = omega arith
  counted-all y others (x ∷ xs) more all =
      let rest = counted-all y others xs more (λ z h. all z (Contains-cons x xs z h)) in
      counted-yes y others x (xs ++ more) (all x (Contains-head x xs)) ∙ ap (λ n. 1 + n) rest ∙ omega arith

  -- an other item with which no item passes makes no difference
  counted-no : (y : Item) (others xs : List Item) → ((x : Item) → Contains xs x → test x y ≡ false)
      → counted (y ∷ others) xs ≡ counted others xs
  counted-no y others [] out = refl
  counted-no y others (x ∷ xs) out =
      counted-cons (y ∷ others) x xs
      ∙ ap (λ b. cond (b || list_any (test x) others) 1 0 + counted (y ∷ others) xs) (out x (Contains-head x xs))
      ∙ ap (λ n. cond (list_any (test x) others) 1 0 + n)
      (counted-no y others xs (λ z h. out z (Contains-cons x xs z h)))
      ∙ sym (counted-cons others x xs)

-- ---- hits

-- each item ends at or before the start of each later one
abbrev AreApart : List Item → Type 0
AreApart items = AllPairs (λ (x y : Item). x.period.to ≤ℤ y.period.from) items

-- the first item ends no later than any
first_ends : (y : Item) (q : List Item) → AreApart (y ∷ q) → (z : Item) → Contains (y ∷ q) z → y.period.to ≤ℤ z.period.to
first_ends y q apart z h =
    elim (Contains-cons_cases y q z h) [
      | inl e ↦ subst (λ (v : Item). y.period.to ≤ℤ v.period.to) e (omega (arith, ints))
      | inr k ↦ (
          let after : y.period.to ≤ℤ z.period.from =
          AllPairs-head (λ (u v : Item). u.period.to ≤ℤ v.period.from) y q z apart k in
          let proper : z.period.from <ℤ z.period.to = z.period.ordered in
          omega (arith, ints))
    ]

-- the next left item ends no later than the right one, and is passed
left_step : (x : Item) (p : List Item) (y : Item) (q : List Item) → AreApart (y ∷ q) → x.period.to ≤ℤ y.period.to
    → advances_of (x ∷ p) (y ∷ q) ≡ 1 + advances_of p (y ∷ q)
left_step x p y q apart first =
    let one : ended_by (y ∷ q) (x ∷ p) ≡ 1 + ended_by (y ∷ q) p = counted-yes ends_by y q x p (by_yes x y first) in
    let same : ended_before (x ∷ p) (y ∷ q) ≡ ended_before p (y ∷ q) =
    counted-no ends_before x p (y ∷ q) (λ z h.
    let after : y.period.to ≤ℤ z.period.to = first_ends y q apart z h in
    before_no z x (omega (arith, ints))) in
    omega (arith, one, same)

-- the right item ends earlier, and is passed
right_step : (x : Item) (p : List Item) (y : Item) (q : List Item) → AreApart (x ∷ p) → y.period.to <ℤ x.period.to
    → advances_of (x ∷ p) (y ∷ q) ≡ 1 + advances_of (x ∷ p) q
right_step x p y q apart first =
    let one : ended_before (x ∷ p) (y ∷ q) ≡ 1 + ended_before (x ∷ p) q =
    counted-yes ends_before x p y q (before_yes y x first) in
    let same : ended_by (y ∷ q) (x ∷ p) ≡ ended_by q (x ∷ p) =
    counted-no ends_by y q (x ∷ p) (λ z h.
    let after : x.period.to ≤ℤ z.period.to = first_ends x p apart z h in
    by_no z y (omega (arith, ints))) in
    omega (arith, one, same)

-- the same two steps for lists given by their first items
pub advances_left : (x : Item) (p : List Item) (y : Item) (q : List Item) → p ≡ x ∷ drop 1 p → q ≡ y ∷ drop 1 q
    → AreApart q → x.period.to ≤ℤ y.period.to → advances_of p q ≡ 1 + advances_of (drop 1 p) q
advances_left x p y q e f apart first =
    subst (λ z. advances_of p z ≡ 1 + advances_of (drop 1 p) z) (sym f)
    (ap (λ z. advances_of z (y ∷ drop 1 q)) e
    ∙ left_step x (drop 1 p) y (drop 1 q) (subst AreApart f apart) first)

pub advances_right : (x : Item) (p : List Item) (y : Item) (q : List Item) → p ≡ x ∷ drop 1 p → q ≡ y ∷ drop 1 q
    → AreApart p → y.period.to <ℤ x.period.to → advances_of p q ≡ 1 + advances_of p (drop 1 q)
advances_right x p y q e f apart first =
    subst (λ z. advances_of z q ≡ 1 + advances_of z (drop 1 q)) (sym e)
    (ap (advances_of (x ∷ drop 1 p)) f
    ∙ right_step x (drop 1 p) y (drop 1 q) (subst AreApart e apart) first)

-- no advances remain once one side is passed
pub advances_end : (p q : List Item) → (p ≡ []) ⊎ (q ≡ []) → advances_of p q ≡ 0
advances_end p q (inl e) = ap (λ z. advances_of z q) e ∙ ap (λ n. 0 + n) (counted-none ends_before q)
advances_end p q (inr e) = ap (advances_of p) e ∙ ap (λ n. n + 0) (counted-none ends_by p)

-- ---- gaps

-- the first left item is passed, and the right items that end no later
pub gap_advances_past : (x : Item) (p q q' : List Item) (m : ℕ) → PassesUpto x.period.to q q' m → EndLater x.period.to q'
    → gap_advances_of (x ∷ p) q ≡ 1 + m + gap_advances_of p q'
gap_advances_past x p q q' m w later =
    let all : ended_by (x ∷ p) (w.passed ++ q') ≡ length w.passed + ended_by (x ∷ p) q' =
    counted-all ends_by x p w.passed q' (λ z h. by_yes z x (w.over z h)) in
    let rest : ended_by (x ∷ p) q' ≡ ended_by p q' =
    counted-no ends_by x p q' (λ z h. by_no z x (later z h)) in
    let whole : ended_by (x ∷ p) q ≡ ended_by (x ∷ p) (w.passed ++ q') = ap (ended_by (x ∷ p)) w.split in
    let size : length q ≡ length w.passed + length q' = ap length w.split ∙ length-append w.passed q' in
    omega (arith, whole, all, rest, size, w.count)

pub gap_advances_end : (p q : List Item) → p ≡ [] → gap_advances_of p q ≡ 0
gap_advances_end p q e = ap (λ z. gap_advances_of z q) e ∙ ap (λ n. 0 + n) (counted-none ends_by q)
