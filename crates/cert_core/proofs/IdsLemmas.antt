-- Numbers that occur once, and items with ascending ids.
use Rattle.std.proofs.Common.{◌≡◌, ◌≢◌, ℕ, zero, suc, ◌+◌, ◌-◌, ◌<◌, ◌≤◌, true, cond, List, [], ◌∷◌, ◌++◌, length, get_or, arith, refl, sym, ap, ◌∙◌, subst, inl, inr}
use Rattle.std.specs.Prelude.{Contains, count_by, ◌==◌}
use Rattle.std.proofs.lemmas.Bool.{eqb-true, cases_lt, eq-eqb}
use Rattle.std.proofs.lemmas.List.{get_or-map, get_or_default}
use Rattle.std.proofs.lemmas.List.Sums.{sum_by-cons, sum_by-append}
use Rattle.list_core.proofs.MadeLemmas.{counted}
use Rattle.dip_core.specs.declared.item.Item.{Item}
use Rattle.dip_core.specs.Item.{IdsRise}
use Rattle.cert_core.specs.Ids.{IsDistinct, IsTwice}
use Rattle.cert_core.specs.Places.{id_at}

-- ---- counts of a number

pub count-cons : (x i : ℕ) (xs : List ℕ)
    → count_by (λ id. id == i) (x ∷ xs) ≡ cond (x == i) 1 0 + count_by (λ id. id == i) xs
count-cons x i xs = sum_by-cons (λ id. cond (id == i) 1 0) x xs

pub count-append : (xs ys : List ℕ) (i : ℕ)
    → count_by (λ id. id == i) (xs ++ ys) ≡ count_by (λ id. id == i) xs + count_by (λ id. id == i) ys
count-append xs ys i = sum_by-append (λ id. cond (id == i) 1 0) xs ys

count-missing : (xs : List ℕ) (i : ℕ) → (Contains xs i → ⊥) → count_by (λ id. id == i) xs ≡ 0
count-missing [] i none = refl
count-missing (x ∷ xs) i none =
    let split = count-cons x i xs in
    let rest : count_by (λ id. id == i) xs ≡ 0 = count-missing xs i (λ h. none (suc h.0, omega (arith, h.1), h.2)) in
    let other : (x == i) ≡ true → ⊥ = λ yes. none (0, omega arith, eqb-true x i yes) in
    grind arith

pub IsDistinct-tail : (x : ℕ) (xs : List ℕ) → IsDistinct (x ∷ xs) → IsDistinct xs
IsDistinct-tail x xs distinct i =
    let split = count-cons x i xs in
    let most : count_by (λ id. id == i) (x ∷ xs) ≤ 1 = distinct i in
    omega arith

pub IsDistinct-append_left : (xs ys : List ℕ) → IsDistinct (xs ++ ys) → IsDistinct xs
IsDistinct-append_left xs ys distinct i =
    let split = count-append xs ys i in
    let most : count_by (λ id. id == i) (xs ++ ys) ≤ 1 = distinct i in
    omega arith

pub IsDistinct-append_right : (xs ys : List ℕ) → IsDistinct (xs ++ ys) → IsDistinct ys
IsDistinct-append_right xs ys distinct i =
    let split = count-append xs ys i in
    let most : count_by (λ id. id == i) (xs ++ ys) ≤ 1 = distinct i in
    omega arith

-- one more number, which wasn't in the list
pub IsDistinct-push : (xs : List ℕ) (x : ℕ) → IsDistinct xs → (Contains xs x → ⊥) → IsDistinct (xs ++ x ∷ [])
IsDistinct-push xs x distinct new i =
    let split : count_by (λ id. id == i) (xs ++ x ∷ []) ≡ count_by (λ id. id == i) xs + count_by (λ id. id == i)
    (x ∷ []) = count-append xs (x ∷ []) i in
    let last : count_by (λ id. id == i) (x ∷ []) ≡ cond (x == i) 1 0 + 0 = count-cons x i [] in
    let most : count_by (λ id. id == i) xs ≤ 1 = distinct i in
    let none : (x == i) ≡ true → count_by (λ id. id == i) xs ≡ 0 =
    λ yes. subst (λ n. count_by (λ id. id == n) xs ≡ 0) (eqb-true x i yes) (count-missing xs x new) in
    grind arith

-- if no number occurs twice, none has occurred earlier
pub twice_is_not_distinct : (ids : List ℕ) (id : ℕ) → IsTwice ids id → IsDistinct ids → ⊥
twice_is_not_distinct ids id twice distinct =
    let d : IsDistinct (twice.before ++ id ∷ twice.after) = subst IsDistinct twice.stands distinct in
    let most : count_by (λ n. n == id) (twice.before ++ id ∷ twice.after) ≤ 1 = d id in
    let split : count_by (λ n. n == id) (twice.before ++ id ∷ twice.after) ≡ count_by
    (λ n. n == id) twice.before + count_by (λ n. n == id) (id ∷ twice.after) =
    count-append twice.before (id ∷ twice.after) id in
    let here : count_by (λ n. n == id) (id ∷ twice.after) ≡ cond (id == id) 1 0 + count_by (λ n. n == id) twice.after =
    count-cons id id twice.after in
    let same : (id == id) ≡ true = eq-eqb id id refl in
    let some : 1 ≤ count_by (λ n. n == id) twice.before =
    counted (λ n. n == id) twice.before id twice.again same in
    grind arith

-- the numbers at two indices differ
pub distinct-differ : (ids : List ℕ) → IsDistinct ids → (i j d : ℕ) → i < j → j < length ids
    → get_or ids i d ≢ get_or ids j d
distinct-differ [] distinct i j d less h same = absurd (omega arith)
distinct-differ (x ∷ xs) distinct i zero d less h same = absurd (omega arith)
distinct-differ (x ∷ xs) distinct zero (suc j) d less h same =
    let split = count-cons x x xs in
    let most : count_by (λ id. id == x) (x ∷ xs) ≤ 1 = distinct x in
    let yes : (x == x) ≡ true = eq-eqb x x refl in
    let there : get_or xs j x ≡ x = get_or_default xs j x d (omega arith) ∙ sym same in
    let some : 1 ≤ count_by (λ id. id == x) xs = counted (λ id. id == x) xs x (j, omega arith, there) yes in
    grind arith
distinct-differ (x ∷ xs) distinct (suc i) (suc j) d less h same =
    distinct-differ xs (IsDistinct-tail x xs distinct) i j d (omega arith) (omega arith) same

-- ---- items with ascending ids

far_by : (items : List Item) → IdsRise items → (i m : ℕ) (d : Item) → i + suc m < length items
    → (get_or items i d).id < (get_or items (i + suc m) d).id
far_by items rise i zero d h = rise i d h
far_by items rise i (suc m) d h =
    let near : (get_or items i d).id < (get_or items (i + suc m) d).id = far_by items rise i m d (omega arith) in
    let e : i + suc m + 1 ≡ i + suc (suc m) = omega arith in
    let next : (get_or items (i + suc m) d).id < (get_or items (i + suc (suc m)) d).id =
    subst (λ n. (get_or items (i + suc m) d).id < (get_or items n d).id) e (rise (i + suc m) d (omega arith)) in
    omega arith

pub id_at-get_or : (items : List Item) (p : ℕ) (d : Item) → p < length items → id_at items p ≡ (get_or items p d).id
id_at-get_or items p d h = get_or-map (λ x. x.id) items p d 0 h

-- the item at an index
pub item_at : (items : List Item) (p : ℕ) → p < length items → (x : Item) × (get_or items p x ≡ x)
    × (id_at items p ≡ x.id)
item_at [] p h = absurd (omega arith)
item_at (x ∷ items) zero h = (x, refl, refl)
item_at (x ∷ items) (suc p) h = item_at items p (omega arith)

pub id_at-rises : (items : List Item) → IdsRise items → (p q : ℕ) → p < q → q < length items
    → id_at items p < id_at items q
id_at-rises items rise p q less h =
    let x : Item = (item_at items q h).0 in
    let e : p + suc (q - suc p) ≡ q = omega arith in
    let far : (get_or items p x).id < (get_or items q x).id =
    subst (λ n. (get_or items p x).id < (get_or items n x).id) e
    (far_by items rise p (q - suc p) x (omega arith)) in
    let one : id_at items p ≡ (get_or items p x).id = id_at-get_or items p x (omega arith) in
    let other : id_at items q ≡ (get_or items q x).id = id_at-get_or items q x h in
    omega arith

-- an id is at one index
pub same_place : (items : List Item) → IdsRise items → (p q : ℕ) → p < length items → q < length items
    → id_at items p ≡ id_at items q → p ≡ q
same_place items rise p q hp hq same = elim (cases_lt p q) [
  | inl less ↦ let far : id_at items p < id_at items q = id_at-rises items rise p q less hq in absurd (omega arith)
  | inr more ↦ elim (cases_lt q p) [
    | inl less ↦ let far : id_at items q < id_at items p = id_at-rises items rise q p less hp in absurd (omega arith)
    | inr most ↦ omega arith
  ]
]

-- an id belongs to one item
pub same_item : (items : List Item) → IdsRise items → (x y : Item) → Contains items x → Contains items y → x.id ≡ y.id
    → x ≡ y
same_item items rise x y (p, hp, ex) (q, hq, ey) same =
    let one : id_at items p ≡ x.id = id_at-get_or items p x hp ∙ ap (λ (z : Item). z.id) ex in
    let other : id_at items q ≡ y.id = id_at-get_or items q y hq ∙ ap (λ (z : Item). z.id) ey in
    let place : p ≡ q = same_place items rise p q hp hq (one ∙ same ∙ sym other) in
    sym ex ∙ (get_or_default items p x y hp ∙ (ap (λ n. get_or items n y) place ∙ ey))
