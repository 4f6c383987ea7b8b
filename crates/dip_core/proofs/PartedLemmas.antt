-- Items, their ids, and the parts that they are divided into.
use Rattle.std.proofs.Common.{◌≡◌, ℕ, zero, suc, ◌+◌, ◌<◌, ◌≤◌, List, [], ◌∷◌, ◌++◌, length, take, drop, cond, refl, sym, ap, ◌∙◌, inl, inr, arith, append-nil, length-append}
use Rattle.std.specs.Prelude.{Contains, count_by, ◌==◌}
use Rattle.std.proofs.lemmas.Bool.Decides.{Decides-eqb}
use Rattle.std.proofs.lemmas.List.{take_more, take-append-drop}
use Rattle.std.proofs.lemmas.List.Concat.{flat_map-append}
use Rattle.std.proofs.lemmas.List.Sums.{sum_by-append}
use Rattle.list_core.proofs.MadeLemmas.{counted}
use Rattle.list_core.proofs.RisingLemmas.{Contains-cons_cases, Contains-none}
use Rattle.dip_core.specs.declared.item.Item.{Item}
use Rattle.dip_core.specs.Item.{HasDistinctIds}
use Rattle.dip_core.specs.Division.{all_of, part_at}

-- an item is determined by its fields
pub Item-same : (a b : Item) → a.period ≡ b.period → a.id ≡ b.id → a.class ≡ b.class → a.amount ≡ b.amount → a ≡ b
Item-same a b p i c m = λ k. record { period = p k; id = i k; class = c k; amount = m k }

-- ---- all items of some parts

-- the items of two lists of parts, one appended to the other
pub all_of-append : (ps qs : List (List Item)) → all_of (ps ++ qs) ≡ all_of ps ++ all_of qs
all_of-append ps qs = flat_map-append (λ (p : List Item). p) ps qs

-- the items of the first `l + 1` parts
pub all_of-more : (ps : List (List Item)) (l : ℕ) → l < length ps
    → all_of (take (l + 1) ps) ≡ all_of (take l ps) ++ part_at ps l
all_of-more ps l h =
    ap all_of (take_more ps l [] h) ∙ all_of-append (take l ps) (part_at ps l ∷ [])
    ∙ ap (λ z. all_of (take l ps) ++ z) (append-nil (part_at ps l))

-- the items of the first `l` parts and of the others
pub all_of-split : (ps : List (List Item)) (l : ℕ) → all_of (take l ps) ++ all_of (drop l ps) ≡ all_of ps
all_of-split ps l = sym (all_of-append (take l ps) (drop l ps)) ∙ ap all_of (take-append-drop l ps)

-- a part has no more items than all parts together
pub length-part_at : (ps : List (List Item)) (k : ℕ) → length (part_at ps k) ≤ length (all_of ps)
length-part_at [] k = omega arith
length-part_at (p ∷ ps) zero = omega (arith, length-append p (all_of ps))
length-part_at (p ∷ ps) (suc k) = let r = length-part_at ps k in omega (arith, r, length-append p (all_of ps))

-- ---- ids

-- the number of items with the id
abbrev count_of : ℕ → List Item → ℕ
count_of i items = count_by (λ x. x.id == i) items

-- an item counts as one with its id
has_id : (items : List Item) (x : Item) (i : ℕ) → Contains items x → x.id ≡ i → 1 ≤ count_of i items
has_id items x i h e = counted (λ (y : Item). y.id == i) items x h ((Decides-eqb x.id i).1 e)

-- the count in two lists together is the sum
count_of-append : (i : ℕ) (xs ys : List Item) → count_of i (xs ++ ys) ≡ count_of i xs + count_of i ys
count_of-append i xs ys = sum_by-append (λ (y : Item). cond (y.id == i) 1 0) xs ys

-- if ids are distinct in two lists together, they are distinct in the first
pub distinct-earlier : (xs ys : List Item) → HasDistinctIds (xs ++ ys) → HasDistinctIds xs
distinct-earlier xs ys distinct i =
    let both = count_of-append i xs ys in
    let most = distinct i in
    omega (arith, most, both)

-- and in the second
pub distinct-later : (xs ys : List Item) → HasDistinctIds (xs ++ ys) → HasDistinctIds ys
distinct-later xs ys distinct i =
    let both = count_of-append i xs ys in
    let most = distinct i in
    omega (arith, most, both)

-- and no item of one list has the id of an item of the other
pub ids-apart : (xs ys : List Item) (x y : Item) → HasDistinctIds (xs ++ ys) → Contains xs x → Contains ys y
    → x.id ≡ y.id → ⊥
ids-apart xs ys x y distinct h k e =
    let one : 1 ≤ count_of x.id xs = has_id xs x x.id h refl in
    let other : 1 ≤ count_of x.id ys = has_id ys y x.id k (sym e) in
    let both = count_of-append x.id xs ys in
    let most = distinct x.id in
    omega (arith, one, other, most, both)

-- if ids are distinct, two items with the same id are the same
pub one_item : (items : List Item) (x y : Item) → HasDistinctIds items → Contains items x → Contains items y
    → x.id ≡ y.id → x ≡ y
one_item [] x y distinct h k e = absurd (Contains-none x h)
one_item (z ∷ zs) x y distinct h k e =
    elim (Contains-cons_cases z zs x h) [
      | inl first ↦ elim (Contains-cons_cases z zs y k) [
        | inl second ↦ sym first ∙ second
        | inr later ↦ absurd (twice y later (ap (λ (v : Item). v.id) first ∙ e))
      ]
      | inr later ↦ elim (Contains-cons_cases z zs y k) [
        | inl second ↦ absurd (twice x later (ap (λ (v : Item). v.id) second ∙ sym e))
        | inr after ↦ one_item zs x y (distinct-later (z ∷ []) zs distinct) later after e
      ]
    ]
  where
    twice : (w : Item) → Contains zs w → z.id ≡ w.id → ⊥
    twice w later same = ids-apart (z ∷ []) zs z w distinct (0, omega arith, refl) later same
