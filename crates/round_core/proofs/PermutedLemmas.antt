-- The tally of items doesn't depend on their order.
use Rattle.std.proofs.Common.{◌≡◌, ◌+◌, ℕ, suc, Bool, true, false, cond, Option, Some, None, List, [], ◌∷◌, length, inl, inr, refl, sym, subst, ap, ◌∙◌, arith}
use Rattle.std.specs.Prelude.{ℤ, pos, negsuc, ◌-ℤ◌, Contains}
use Rattle.std.specs.List.{sum_by}
use Rattle.std.specs.List.Sorted.{IsPermutation}
use Rattle.std.proofs.lemmas.Int.{ints}
use Rattle.std.proofs.lemmas.List.{nil_from_length}
use Rattle.std.proofs.lemmas.List.Sums.{sum_by-cons, length-filter}
use Rattle.std.proofs.lemmas.List.Sorted.{sum_by-IsPermutation, IsPermutation-sym, Contains-permutation}
use Rattle.period_core.specs.Period.{holds_at}
use Rattle.dip_core.specs.declared.item.Item.{Item}
use Rattle.list_core.proofs.RisingLemmas.{Contains-head, Contains-cons, Contains-cons_cases, Contains-none}
use Rattle.merge_core.specs.declared.tally.Tally.{Tally}
use Rattle.merge_core.specs.Tallies.{holding, amounts, total, IsTally, IsTallyAt}

-- ---- the items that hold an instant

held_has : (xs : List Item) (t : ℤ) (x : Item) → Contains xs x → holds_at t x.period ≡ true → Contains (holding xs t) x
held_has [] t x h e = absurd (Contains-none x h)
held_has (y ∷ xs) t x h e =
    elim (Contains-cons_cases y xs x h) [
      | inl f ↦
          let on : holds_at t y.period ≡ true = subst (λ (v : Item). holds_at t v.period ≡ true) (sym f) e in
          subst (λ z. Contains z x) (sym (ap (λ (b : Bool). cond b (y ∷ holding xs t) (holding xs t)) on))
          (subst (Contains (y ∷ holding xs t)) f (Contains-head y (holding xs t)))
      | inr k ↦ keep (holds_at t y.period) (held_has xs t x k e)
    ]
  where
    keep : (b : Bool) → Contains (holding xs t) x → Contains (cond b (y ∷ holding xs t) (holding xs t)) x
    keep true h = Contains-cons y (holding xs t) x h
    keep false h = h

pub has_held : (xs : List Item) (t : ℤ) (x : Item) → Contains (holding xs t) x
    → Contains xs x × (holds_at t x.period ≡ true)
has_held [] t x h = absurd (Contains-none x h)
has_held (y ∷ xs) t x h = split (holds_at t y.period) refl (has_held xs t x) h
  where
    split : (b : Bool) → holds_at t y.period ≡ b
        → (Contains (holding xs t) x → Contains xs x × (holds_at t x.period ≡ true))
        → Contains (cond b (y ∷ holding xs t) (holding xs t)) x → Contains (y ∷ xs) x × (holds_at t x.period ≡ true)
    split true e rec k = elim (Contains-cons_cases y (holding xs t) x k) [
      | inl f ↦ (
        subst (Contains (y ∷ xs)) f (Contains-head y xs),
        subst (λ (v : Item). holds_at t v.period ≡ true) f e,
      )
      | inr later ↦ let m = rec later in (Contains-cons y xs x m.0, m.1)
    ]
    split false e rec k = let m = rec k in (Contains-cons y xs x m.0, m.1)

held_permuted : (xs ys : List Item) (t : ℤ) (x : Item) → IsPermutation xs ys → Contains (holding xs t) x
    → Contains (holding ys t) x
held_permuted xs ys t x p h = let m = has_held xs t x h in held_has ys t x (Contains-permutation xs ys x p m.0) m.1

amount_has : (zs : List Item) (x : Item) → Contains zs x → Contains (amounts zs) x.amount
amount_has [] x h = absurd (Contains-none x h)
amount_has (z ∷ zs) x h = elim (Contains-cons_cases z zs x h) [
  | inl e ↦ subst (Contains (amounts (z ∷ zs))) (ap (λ (v : Item). v.amount) e) (Contains-head z.amount (amounts zs))
  | inr k ↦ Contains-cons z.amount (amounts zs) x.amount (amount_has zs x k)
]

pub amount_from : (zs : List Item) (a : ℤ) → Contains (amounts zs) a → (x : Item) × Contains zs x × (x.amount ≡ a)
amount_from [] a h = absurd (Contains-none a h)
amount_from (z ∷ zs) a h = elim (Contains-cons_cases z.amount (amounts zs) a h) [
  | inl e ↦ (z, Contains-head z zs, e)
  | inr k ↦ let m = amount_from zs a k in (m.0, Contains-cons z zs m.0 m.1, m.2)
]

amounts_permuted : (xs ys : List Item) (t a : ℤ) → IsPermutation xs ys → Contains (amounts (holding xs t)) a
    → Contains (amounts (holding ys t)) a
amounts_permuted xs ys t a p h =
    let m = amount_from (holding xs t) a h in
    subst (Contains (amounts (holding ys t))) m.2 (amount_has (holding ys t) m.0 (held_permuted xs ys t m.0 p m.1))

-- ---- sums: the positive parts minus the negative ones

-- An amount above zero.
abbrev gain : ℤ → ℕ
gain (pos n) = n
gain (negsuc n) = 0

-- An amount below zero.
abbrev loss : ℤ → ℕ
loss (pos n) = 0
loss (negsuc n) = suc n

split_amount : (a : ℤ) → a ≡ pos (gain a) -ℤ pos (loss a)
split_amount (pos n) = omega (arith, ints)
split_amount (negsuc n) = omega (arith, ints)

-- An item's contribution at `t`, if it holds `t`.
abbrev share_at : ℤ → (ℤ → ℕ) → Item → ℕ
share_at t f x = cond (holds_at t x.period) (f x.amount) 0

total_split : (xs : List Item) (t : ℤ)
    → total (amounts (holding xs t)) ≡ pos (sum_by (share_at t gain) xs) -ℤ pos (sum_by (share_at t loss) xs)
total_split [] t = omega (arith, ints)
total_split (y ∷ xs) t =
    step (holds_at t y.period) (sum_by (share_at t gain) xs) (sum_by (share_at t loss) xs) (total_split xs t)
    ∙ ap (λ (n : ℕ). pos n -ℤ pos (share_at t loss y + sum_by (share_at t loss) xs))
    (sym (sum_by-cons (share_at t gain) y xs))
    ∙ ap (λ (n : ℕ). pos (sum_by (share_at t gain) (y ∷ xs)) -ℤ pos n) (sym (sum_by-cons (share_at t loss) y xs))
  where
    step : (b : Bool) (g l : ℕ) → total (amounts (holding xs t)) ≡ pos g -ℤ pos l
        → total (amounts (cond b (y ∷ holding xs t) (holding xs t)))
        ≡ pos (cond b (gain y.amount) 0 + g) -ℤ pos (cond b (loss y.amount) 0 + l)
    step true g l e =
        let s : y.amount ≡ pos (gain y.amount) -ℤ pos (loss y.amount) = split_amount y.amount in omega (arith, ints)
    step false g l e = omega (arith, ints)

total_permuted : (xs ys : List Item) (t : ℤ) → IsPermutation xs ys
    → total (amounts (holding ys t)) ≡ total (amounts (holding xs t))
total_permuted xs ys t p =
    total_split ys t
    ∙ ap (λ (n : ℕ). pos n -ℤ pos (sum_by (share_at t loss) ys)) (sum_by-IsPermutation (share_at t gain) xs ys p)
    ∙ ap (λ (n : ℕ). pos (sum_by (share_at t gain) xs) -ℤ pos n) (sum_by-IsPermutation (share_at t loss) xs ys p)
    ∙ sym (total_split xs t)

count_permuted : (xs ys : List Item) (t : ℤ) → IsPermutation xs ys → length (holding ys t) ≡ length (holding xs t)
count_permuted xs ys t p =
    length-filter (λ (x : Item). holds_at t x.period) ys
    ∙ sum_by-IsPermutation (λ (x : Item). cond (holds_at t x.period) 1 0) xs ys p
    ∙ sym (length-filter (λ (x : Item). holds_at t x.period) xs)

-- ---- tallies

IsTally-permuted : (xs ys : List Item) (t : ℤ) (tally : Tally) → IsPermutation xs ys → IsTally (holding xs t) tally
    → IsTally (holding ys t) tally
IsTally-permuted xs ys t tally p i =
    let q : IsPermutation ys xs = IsPermutation-sym xs ys p in
    record {
      count = i.count ∙ sym (count_permuted xs ys t p);
      sum = i.sum ∙ sym (total_permuted xs ys t p);
      min_in = amounts_permuted xs ys t tally.min p i.min_in;
      min_least = λ a h. i.min_least a (amounts_permuted ys xs t a q h);
      max_in = amounts_permuted xs ys t tally.max p i.max_in;
      max_greatest = λ a h. i.max_greatest a (amounts_permuted ys xs t a q h);
    }

-- permuted items have the same tally at an instant
pub IsTallyAt-permuted : (xs ys : List Item) (t : ℤ) (o : Option Tally) → IsPermutation xs ys → IsTallyAt xs t o
    → IsTallyAt ys t o
IsTallyAt-permuted xs ys t None p i = nil_from_length (holding ys t) (count_permuted xs ys t p ∙ ap length i)
IsTallyAt-permuted xs ys t (Some tally) p i = IsTally-permuted xs ys t tally p i
