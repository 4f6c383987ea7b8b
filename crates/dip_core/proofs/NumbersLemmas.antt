-- How parts by numbers change with one more item and its number.
use Rattle.std.proofs.Common.{◌≡◌, ◌≢◌, ◌==◌, ℕ, zero, suc, ◌+◌, ◌-◌, ◌<◌, ◌≤◌, ◌⊎◌, inl, inr, Bool, true, false, cond, List, [], ◌∷◌, ◌++◌, length, get_or, set, take, arith, refl, sym, ap, ◌∙◌, eq-eqb}
use Rattle.std.specs.Prelude.{All}
use Rattle.std.proofs.lemmas.Bool.{eqb-true, false_from_ne_true}
use Rattle.std.proofs.lemmas.List.{append-nil, get_or_default, length-take-le, take_more}
use Rattle.std.proofs.lemmas.List.Elements.{All-head, All-tail}
use Rattle.dip_core.specs.declared.item.Item.{Item}
use Rattle.dip_core.specs.Division.{part_at}
use Rattle.dip_core.specs.Placing.{added}
use Rattle.dip_core.specs.Numbers.{items_numbered, parts_numbered}
use Rattle.dip_core.proofs.AddedLemmas.{added-push, added-set}
use Rattle.dip_core.proofs.DivisionLemmas.{some_item}

-- ---- one part

cond-push : (b : Bool) (y : Item) (xs ys zs : List Item) → xs ≡ ys ++ zs
    → cond b (y ∷ xs) xs ≡ cond b (y ∷ ys) ys ++ zs
cond-push true y xs ys zs e = ap (λ us. y ∷ us) e
cond-push false y xs ys zs e = e

-- the items of a part after one more item with number `n`
pub items_numbered-push : (xs : List Item) (ns : List ℕ) (x : Item) (n k : ℕ) → length ns ≡ length xs
    → items_numbered (xs ++ x ∷ []) (ns ++ n ∷ []) k ≡ items_numbered xs ns k ++ cond (n == k) (x ∷ []) []
items_numbered-push [] [] x n k long = refl
items_numbered-push [] (m ∷ ns) x n k long = absurd (omega (arith, long))
items_numbered-push (y ∷ xs) [] x n k long = absurd (omega (arith, long))
items_numbered-push (y ∷ xs) (m ∷ ns) x n k long =
    cond-push (m == k) y (items_numbered (xs ++ x ∷ []) (ns ++ n ∷ []) k) (items_numbered xs ns k)
    (cond (n == k) (x ∷ []) []) (items_numbered-push xs ns x n k (omega (arith, long)))

pub items_numbered-same : (xs : List Item) (ns : List ℕ) (x : Item) (k : ℕ) → length ns ≡ length xs
    → items_numbered (xs ++ x ∷ []) (ns ++ k ∷ []) k ≡ items_numbered xs ns k ++ x ∷ []
items_numbered-same xs ns x k long =
    items_numbered-push xs ns x k k long
    ∙ ap (λ b. items_numbered xs ns k ++ cond b (x ∷ []) []) (eq-eqb k k refl)

pub items_numbered-other : (xs : List Item) (ns : List ℕ) (x : Item) (n k : ℕ) → length ns ≡ length xs → n ≢ k
    → items_numbered (xs ++ x ∷ []) (ns ++ n ∷ []) k ≡ items_numbered xs ns k
items_numbered-other xs ns x n k long ne =
    items_numbered-push xs ns x n k long
    ∙ ap (λ b. items_numbered xs ns k ++ cond b (x ∷ []) []) (false_from_ne_true (n == k) (λ q. ne (eqb-true n k q)))
    ∙ append-nil (items_numbered xs ns k)

-- no item has a number that all numbers are below
pub items_numbered-none : (xs : List Item) (ns : List ℕ) (k : ℕ) → All (λ n. n < k) ns → items_numbered xs ns k ≡ []
items_numbered-none [] ns k under = refl
items_numbered-none (x ∷ xs) [] k under = refl
items_numbered-none (x ∷ xs) (n ∷ ns) k under =
    let less : n < k = All-head (λ n. n < k) n ns under in
    let other : (n == k) ≡ false = false_from_ne_true (n == k) (λ q. let e : n ≡ k = eqb-true n k q in omega (arith, less, e)) in
    ap (λ b. cond b (x ∷ items_numbered xs ns k) (items_numbered xs ns k)) other
    ∙ items_numbered-none xs ns k (All-tail (λ n. n < k) n ns under)

-- ---- all parts

pub length-numbered : (xs : List Item) (ns : List ℕ) (from count : ℕ) → length (parts_numbered xs ns from count) ≡ count
length-numbered xs ns from zero = refl
length-numbered xs ns from (suc count) = ap suc (length-numbered xs ns (suc from) count)

pub part_at-numbered : (xs : List Item) (ns : List ℕ) (from count k : ℕ) → k < count
    → part_at (parts_numbered xs ns from count) k ≡ items_numbered xs ns (from + k)
part_at-numbered xs ns from zero k less = absurd (omega arith)
part_at-numbered xs ns from (suc count) zero less = ap (items_numbered xs ns) (omega arith)
part_at-numbered xs ns from (suc count) (suc k) less =
    part_at-numbered xs ns (suc from) count k (omega arith) ∙ ap (items_numbered xs ns) (omega arith)

pub numbered-append : (xs : List Item) (ns : List ℕ) (from one other : ℕ)
    → parts_numbered xs ns from (one + other)
    ≡ parts_numbered xs ns from one ++ parts_numbered xs ns (from + one) other
numbered-append xs ns from zero other =
    let e : from ≡ from + 0 = omega arith in
    let f : 0 + other ≡ other = omega arith in
    ap (parts_numbered xs ns from) f ∙ ap (λ n. parts_numbered xs ns n other) e
numbered-append xs ns from (suc one) other =
    let e : suc from + one ≡ from + suc one = omega arith in
    let f : suc one + other ≡ suc (one + other) = omega arith in
    ap (parts_numbered xs ns from) f
    ∙ ap (λ ps. items_numbered xs ns from ∷ ps) (
    numbered-append xs ns (suc from) one other
    ∙ ap (λ n. parts_numbered xs ns (suc from) one ++ parts_numbered xs ns n other) e
    )

-- an item with a lower number is in none of the parts
pub numbered-before : (xs : List Item) (ns : List ℕ) (x : Item) (n from count : ℕ) → length ns ≡ length xs → n < from
    → parts_numbered (xs ++ x ∷ []) (ns ++ n ∷ []) from count ≡ parts_numbered xs ns from count
numbered-before xs ns x n from zero long less = refl
numbered-before xs ns x n from (suc count) long less =
    ap (λ part. part ∷ parts_numbered (xs ++ x ∷ []) (ns ++ n ∷ []) (suc from) count)
    (items_numbered-other xs ns x n from long (λ e. absurd (omega (arith, e, less))))
    ∙ ap (λ ps. items_numbered xs ns from ∷ ps) (numbered-before xs ns x n (suc from) count long (omega arith))

-- an item with a number past the parts is in none of them
pub numbered-past : (xs : List Item) (ns : List ℕ) (x : Item) (n from count : ℕ) → length ns ≡ length xs
    → from + count ≤ n → parts_numbered (xs ++ x ∷ []) (ns ++ n ∷ []) from count ≡ parts_numbered xs ns from count
numbered-past xs ns x n from zero long past = refl
numbered-past xs ns x n from (suc count) long past =
    ap (λ part. part ∷ parts_numbered (xs ++ x ∷ []) (ns ++ n ∷ []) (suc from) count)
    (items_numbered-other xs ns x n from long (λ e. absurd (omega (arith, e, past))))
    ∙ ap (λ ps. items_numbered xs ns from ∷ ps) (numbered-past xs ns x n (suc from) count long (omega arith))

-- an item with the number of one of the parts is the last item of that part
pub numbered-set : (xs : List Item) (ns : List ℕ) (x : Item) (n from count k : ℕ) → length ns ≡ length xs → k < count
    → n ≡ from + k
    → parts_numbered (xs ++ x ∷ []) (ns ++ n ∷ []) from count
    ≡ set (parts_numbered xs ns from count) k (items_numbered xs ns n ++ x ∷ [])
numbered-set xs ns x n from zero k long less e = absurd (omega arith)
numbered-set xs ns x n from (suc count) zero long less e =
    let first : n ≡ from = omega (arith, e) in
    ap (λ m. items_numbered (xs ++ x ∷ []) (ns ++ n ∷ []) m
    ∷ parts_numbered (xs ++ x ∷ []) (ns ++ n ∷ []) (suc from) count) (sym first)
    ∙ ap (λ part. part ∷ parts_numbered (xs ++ x ∷ []) (ns ++ n ∷ []) (suc from) count)
    (items_numbered-same xs ns x n long)
    ∙ ap (λ ps. (items_numbered xs ns n ++ x ∷ []) ∷ ps)
    (numbered-before xs ns x n (suc from) count long (omega (arith, first)))
numbered-set xs ns x n from (suc count) (suc k) long less e =
    ap (λ part. part ∷ parts_numbered (xs ++ x ∷ []) (ns ++ n ∷ []) (suc from) count)
    (items_numbered-other xs ns x n from long (λ f. absurd (omega (arith, e, f))))
    ∙ ap (λ ps. items_numbered xs ns from ∷ ps)
    (numbered-set xs ns x n (suc from) count k long (omega arith) (omega (arith, e)))

-- ---- placing one more item

pub added-numbered : (xs : List Item) (ns : List ℕ) (x : Item) (n count : ℕ) → length ns ≡ length xs → n < count
    → added (parts_numbered xs ns 0 count) n x ≡ parts_numbered (xs ++ x ∷ []) (ns ++ n ∷ []) 0 count
added-numbered xs ns x n count long less =
    let within : n < length (parts_numbered xs ns 0 count) = omega (arith, length-numbered xs ns 0 count, less) in
    let e : 0 + n ≡ n = omega arith in
    let part : part_at (parts_numbered xs ns 0 count) n ≡ items_numbered xs ns n =
    part_at-numbered xs ns 0 count n less ∙ ap (items_numbered xs ns) e in
    sym (added-set (parts_numbered xs ns 0 count) n x (items_numbered xs ns n ++ x ∷ []) within
    (ap (λ ys. ys ++ x ∷ []) (sym part)))
    ∙ sym (numbered-set xs ns x n 0 count n long less (sym e))

pub added-numbered_new : (xs : List Item) (ns : List ℕ) (x : Item) (count : ℕ) → length ns ≡ length xs
    → All (λ n. n < count) ns
    → added (parts_numbered xs ns 0 count) count x ≡ parts_numbered (xs ++ x ∷ []) (ns ++ count ∷ []) 0 (count + 1)
added-numbered_new xs ns x count long under =
    let ps : List (List Item) = parts_numbered xs ns 0 count in
    let e : 0 + count ≡ count = omega arith in
    let alone : items_numbered (xs ++ x ∷ []) (ns ++ count ∷ []) count ≡ x ∷ [] =
    items_numbered-same xs ns x count long ∙ ap (λ ys. ys ++ x ∷ []) (items_numbered-none xs ns count under) in
    sym (
    numbered-append (xs ++ x ∷ []) (ns ++ count ∷ []) 0 count 1
    ∙ ap (λ n. parts_numbered (xs ++ x ∷ []) (ns ++ count ∷ []) 0 count
    ++ parts_numbered (xs ++ x ∷ []) (ns ++ count ∷ []) n 1) e
    ∙ ap (λ part. parts_numbered (xs ++ x ∷ []) (ns ++ count ∷ []) 0 count ++ part ∷ []) alone
    ∙ ap (λ us. us ++ (x ∷ []) ∷ []) (numbered-past xs ns x count 0 count long (omega arith))
    ∙ added-push (parts_numbered xs ns 0 count) x
    ∙ ap (λ n. added (parts_numbered xs ns 0 count) n x) (length-numbered xs ns 0 count)
    )

pub numbered-nil : (ns : List ℕ) (from other count : ℕ)
    → parts_numbered [] ns from count ≡ parts_numbered [] [] other count
numbered-nil ns from other zero = refl
numbered-nil ns from other (suc count) = ap (λ ps. [] ∷ ps) (numbered-nil ns (suc from) (suc other) count)

pub numbered-nil_push : (from count : ℕ) → parts_numbered [] [] from count ++ [] ∷ [] ≡ parts_numbered [] [] from (count + 1)
numbered-nil_push from count = sym (numbered-append [] [] from count 1)

-- ---- the next item of a list

module _ (items : List Item) (numbers : List ℕ) (i from count n : ℕ) (long : length numbers ≡ length items)
    (within : i < length items) (number : n ≡ get_or numbers i 0) where
  next_numbers : take (i + 1) numbers ≡ take i numbers ++ n ∷ []
  next_numbers =
      take_more numbers i 0 (omega (arith, long, within)) ∙ ap (λ m. take i numbers ++ m ∷ []) (sym number)

  as_many : length (take i numbers) ≡ length (take i items)
  as_many =
      length-take-le i numbers (omega (arith, long, within)) ∙ sym (length-take-le i items (omega (arith, within)))

  next_parts : (x : Item) → x ≡ get_or items i x
      → parts_numbered (take (i + 1) items) (take (i + 1) numbers) from count
      ≡ parts_numbered (take i items ++ x ∷ []) (take i numbers ++ n ∷ []) from count
  next_parts x here =
      ap (λ ns. parts_numbered (take (i + 1) items) ns from count) next_numbers
      ∙ ap (λ xs. parts_numbered xs (take i numbers ++ n ∷ []) from count)
      (take_more items i x within ∙ ap (λ y. take i items ++ y ∷ []) (sym here))

  -- the next item is in none of the parts
  pub numbered-next_other : (n < from) ⊎ (from + count ≤ n)
      → parts_numbered (take (i + 1) items) (take (i + 1) numbers) from count
      ≡ parts_numbered (take i items) (take i numbers) from count
  numbered-next_other where_it_is =
      let some : Item = some_item items (omega (arith, within)) in
      let x : Item = get_or items i some in
      next_parts x (get_or_default items i some x within) ∙ elim where_it_is [
        | inl less ↦ numbered-before (take i items) (take i numbers) x n from count as_many less
        | inr past ↦ numbered-past (take i items) (take i numbers) x n from count as_many past
      ]

  -- the next item is the last one of a part
  pub numbered-next : (x : Item) → x ≡ get_or items i x → from ≤ n → n - from < count
      → (parts : List (List Item)) (part : List Item)
      → parts ≡ parts_numbered (take i items) (take i numbers) from count
      → part ≡ part_at parts (n - from) ++ x ∷ []
      → set parts (n - from) part ≡ parts_numbered (take (i + 1) items) (take (i + 1) numbers) from count
  numbered-next x here after before parts part are is =
      let back : n ≡ from + (n - from) = omega (arith, after) in
      let old : part_at parts (n - from) ≡ items_numbered (take i items) (take i numbers) n =
      ap (λ ps. part_at ps (n - from)) are
      ∙ part_at-numbered (take i items) (take i numbers) from count (n - from) before
      ∙ ap (items_numbered (take i items) (take i numbers)) (sym back) in
      ap (λ ps. set ps (n - from) part) are
      ∙ ap (set (parts_numbered (take i items) (take i numbers) from count) (n - from))
      (is ∙ ap (λ ys. ys ++ x ∷ []) old)
      ∙ sym (numbered-set (take i items) (take i numbers) x n from count (n - from) as_many before back)
      ∙ sym (next_parts x here)

-- ---- both halves

pub numbered-halves : (xs : List Item) (ns of_items : List ℕ) (one other half count : ℕ) (low high : List (List Item))
    → of_items ≡ ns → one ≡ half → other + half ≡ count → low ≡ parts_numbered xs of_items 0 one
    → high ≡ parts_numbered xs of_items half other → low ++ high ≡ parts_numbered xs ns 0 count
numbered-halves xs ns of_items one other half count low high same first total low_is high_is =
    let begin : half ≡ 0 + one = omega (arith, first) in
    let sum : one + other ≡ count = omega (arith, first, total) in
    ap (λ ps. ps ++ high) low_is
    ∙ ap (λ ps. parts_numbered xs of_items 0 one ++ ps) (high_is ∙ ap (λ n. parts_numbered xs of_items n other) begin)
    ∙ sym (numbered-append xs of_items 0 one other)
    ∙ ap (parts_numbered xs of_items 0) sum
    ∙ ap (λ ms. parts_numbered xs ms 0 count) same
