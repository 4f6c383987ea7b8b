-- Tallies of two lists of items together.
use Rattle.std.proofs.Common.{◌≡◌, ◌+◌, List, [], ◌∷◌, ◌++◌, ◌⊎◌, Option, Some, None, inl, inr, refl, sym, subst, ap, ◌∙◌, arith, length-append, append-nil}
use Rattle.std.specs.Prelude.{ℤ, ◌+ℤ◌, Contains}
use Rattle.std.specs.Int.{int_min, int_max}
use Rattle.std.proofs.lemmas.Int.{ints, clamps}
use Rattle.std.proofs.lemmas.List.Elements.{filter-append, Contains-append_left, Contains-append_right, Contains-append_cases}
use Rattle.period_core.specs.Period.{holds_at}
use Rattle.dip_core.specs.declared.item.Item.{Item}
use Rattle.merge_core.specs.declared.tally.Tally.{Tally}
use Rattle.merge_core.specs.Tallies.{holding, amounts, total, IsTally, IsTallyAt, both}
use Rattle.merge_core.specs.Steps.{StepList, IsStepListOf, IsBoth, tally_at}
use Rattle.merge_core.proofs.SharedLemmas.{by_order}

amounts-append : (xs ys : List Item) → amounts (xs ++ ys) ≡ amounts xs ++ amounts ys
amounts-append [] ys = refl
amounts-append (x ∷ xs) ys = ap (λ z. x.amount ∷ z) (amounts-append xs ys)

total-append : (xs ys : List ℤ) → total (xs ++ ys) ≡ total xs +ℤ total ys
total-append [] ys = omega (arith, ints)
total-append (x ∷ xs) ys = let e = total-append xs ys in omega (arith, ints)

-- The tally of two tallies' items.
abbrev pub tally_both : Tally → Tally → Tally
tally_both a b =
    record { count = a.count + b.count; sum = a.sum +ℤ b.sum; min = int_min a.min b.min; max = int_max a.max b.max }

-- an amount of both lists together is an amount of one of them
module _ (xs ys : List Item) where
  in_both : (n : ℤ) → Contains (amounts xs) n ⊎ Contains (amounts ys) n → Contains (amounts (xs ++ ys)) n
  in_both n h =
      subst (λ z. Contains z n) (sym (amounts-append xs ys))
      (elim h [
        | inl k ↦ Contains-append_left (amounts xs) (amounts ys) n k
        | inr k ↦ Contains-append_right (amounts xs) (amounts ys) n k
      ])

  of_both : (n : ℤ) → Contains (amounts (xs ++ ys)) n → Contains (amounts xs) n ⊎ Contains (amounts ys) n
  of_both n h =
      Contains-append_cases (amounts xs) (amounts ys) n (subst (λ z. Contains z n) (amounts-append xs ys) h)

  IsTally-append : (a b : Tally) → IsTally xs a → IsTally ys b → IsTally (xs ++ ys) (tally_both a b)
  IsTally-append a b i j =
      record {
        count = omega (arith, i.count, j.count, length-append xs ys);
        sum = ap (λ z. z +ℤ b.sum) i.sum ∙ ap (λ z. total (amounts xs) +ℤ z) j.sum
            ∙ sym (ap total (amounts-append xs ys) ∙ total-append (amounts xs) (amounts ys));
        min_in = in_both (int_min a.min b.min) (elim (by_order a.min b.min) [
          | inl h ↦ inl (
              let e : a.min ≡ int_min a.min b.min = omega (arith, ints, clamps) in
              subst (λ z. Contains (amounts xs) z) e i.min_in)
          | inr h ↦ inr (
              let e : b.min ≡ int_min a.min b.min = omega (arith, ints, clamps) in
              subst (λ z. Contains (amounts ys) z) e j.min_in)
        ]);
        min_least = λ n h. elim (of_both n h) [
          | inl k ↦ (let f = i.min_least n k in omega (arith, ints, clamps))
          | inr k ↦ (let f = j.min_least n k in omega (arith, ints, clamps))
        ];
        max_in = in_both (int_max a.max b.max) (elim (by_order a.max b.max) [
          | inr h ↦ inl (
              let e : a.max ≡ int_max a.max b.max = omega (arith, ints, clamps) in
              subst (λ z. Contains (amounts xs) z) e i.max_in)
          | inl h ↦ inr (
              let e : b.max ≡ int_max a.max b.max = omega (arith, ints, clamps) in
              subst (λ z. Contains (amounts ys) z) e j.max_in)
        ]);
        max_greatest = λ n h. elim (of_both n h) [
          | inl k ↦ (let f = i.max_greatest n k in omega (arith, ints, clamps))
          | inr k ↦ (let f = j.max_greatest n k in omega (arith, ints, clamps))
        ];
      }

holding-append : (xs ys : List Item) (t : ℤ) → holding (xs ++ ys) t ≡ holding xs t ++ holding ys t
holding-append xs ys t = filter-append (λ (x : Item). holds_at t x.period) xs ys

-- the tally of both lists' items that hold `t` is the sum of both tallies
pub IsTallyAt-append : (xs ys : List Item) (t : ℤ) (a b : Option Tally) → IsTallyAt xs t a → IsTallyAt ys t b
    → IsTallyAt (xs ++ ys) t (both a b)
IsTallyAt-append xs ys t None None i j = holding-append xs ys t ∙ ap (λ z. z ++ holding ys t) i ∙ j
IsTallyAt-append xs ys t None (Some b) i j =
    subst (λ z. IsTally z b) (sym (holding-append xs ys t ∙ ap (λ z. z ++ holding ys t) i)) j
IsTallyAt-append xs ys t (Some a) None i j =
    subst (λ z. IsTally z a)
    (sym (holding-append xs ys t ∙ ap (λ z. holding xs t ++ z) j ∙ append-nil (holding xs t))) i
IsTallyAt-append xs ys t (Some a) (Some b) i j =
    subst (λ z. IsTally z (tally_both a b)) (sym (holding-append xs ys t))
    (IsTally-append (holding xs t) (holding ys t) a b i j)

-- the sum of two lists of steps counts the items of both
pub IsStepListOf-append : (one other list : StepList) → IsBoth one other list
    → (xs ys : List Item) → IsStepListOf xs one
    → IsStepListOf ys other → IsStepListOf (xs ++ ys) list
IsStepListOf-append one other list is xs ys a b =
    record {
      tallies = λ t. subst (IsTallyAt (xs ++ ys) t) (sym (is.tallies t))
          (IsTallyAt-append xs ys t (tally_at one.steps t) (tally_at other.steps t) (a.tallies t) (b.tallies t));
      weight = omega (arith, is.weight, a.weight, b.weight, length-append xs ys);
    }
