-- Adding two lists of steps, step by step.
use Rattle.std.proofs.Common.{◌≡◌, ℕ, List, [], ◌∷◌, ◌++◌, Option, Some, None, drop, inl, inr, refl, sym, subst, ap, ◌∙◌, arith, append-nil, append_assoc}
use Rattle.std.specs.Prelude.{ℤ, ◌≤ℤ◌, ◌<ℤ◌, Contains}
use Rattle.std.specs.Int.{int_min}
use Rattle.std.proofs.lemmas.Int.{clamps, ints}
use Rattle.list_core.proofs.RisingLemmas.{Contains-head, Contains-cons, Contains-cons_cases, Contains-none}
use Rattle.merge_core.specs.declared.tally.Tally.{Tally}
use Rattle.merge_core.specs.declared.step.Step.{Step}
use Rattle.merge_core.specs.Tallies.{both}
use Rattle.merge_core.specs.Steps.{tally_at, AreStepsApart}
use Rattle.merge_core.specs.Combining.{CanAddTallies, CanAdd, IsBothSteps, IsBothFrom, IsNextStep, StartsFrom, EndsFrom, EndsBeyond, IsHeadFrom, IsFirstOfBoth, IsBeyond}
use Rattle.merge_core.proofs.SharedLemmas.{by_order}
use Rattle.merge_core.proofs.StepLemmas.{apart_head, apart_tail, apart_none, at_yes, at_early, at_late, at_none, at_first, stepped}

pub both_none : (a : Option Tally) → both a None ≡ a
both_none None = refl
both_none (Some a) = refl

-- two steps with one tally agree if both hold the instant or both start later
same_at : (s x : Step) (t : ℤ) → s.tally ≡ x.tally → t <ℤ s.period.to → t <ℤ x.period.to
    → (s.period.from ≤ℤ t → x.period.from ≤ℤ t) → (x.period.from ≤ℤ t → s.period.from ≤ℤ t)
    → tally_at (s ∷ []) t ≡ tally_at (x ∷ []) t
same_at s x t e a b to back =
    elim (by_order s.period.from t) [
      | inl h ↦ at_yes s [] t h a ∙ ap (λ (v : Tally). Some v) e ∙ sym (at_yes x [] t (to h) b)
      | inr h ↦
          let early : t <ℤ x.period.from =
          elim (by_order x.period.from t) [
            | inl k ↦ (let m : s.period.from ≤ℤ t = back k in omega (arith, ints))
            | inr k ↦ k
          ] in
          at_early s [] t h ∙ sym (at_early x [] t early)
    ]

-- ---- the head of a list

head_of : (at : ℤ) (x : Step) (xs : List Step) (s : Step) → AreStepsApart (x ∷ xs) → at ≤ℤ s.period.from
    → x.period.from ≤ℤ s.period.from → ((t : ℤ) → at ≤ℤ t → x.period.from ≤ℤ t → s.period.from ≤ℤ t)
    → s.period.to ≡ x.period.to → s.tally ≡ x.tally → IsHeadFrom at (x ∷ xs) s
head_of at x xs s r from after least to tally =
    let proper : x.period.from <ℤ x.period.to = x.period.ordered in
    record {
      from = from;
      ends = λ y h. elim (Contains-cons_cases x xs y h) [
        | inl e ↦ (
            let f : x.period.to ≡ y.period.to = ap (λ (v : Step). v.period.to) e in omega (arith, ints))
        | inr k ↦ (
            let f : x.period.to ≤ℤ y.period.from = apart_head x xs y r k in
            let g : y.period.from <ℤ y.period.to = y.period.ordered in omega (arith, ints))
      ];
      tallies = λ t on early.
          let before : t <ℤ x.period.to = omega (arith, ints) in
          same_at s x t tally early before (λ h. omega (arith, ints)) (λ h. least t on h)
          ∙ sym (at_first x xs t r before);
      origin = x;
      origin_in = Contains-head x xs;
      tally = tally;
    }

pub head_is : (at : ℤ) (steps : List Step) (x s : Step) → steps ≡ x ∷ drop 1 steps → AreStepsApart steps
    → at ≤ℤ s.period.from → x.period.from ≤ℤ s.period.from
    → ((t : ℤ) → at ≤ℤ t → x.period.from ≤ℤ t → s.period.from ≤ℤ t)
    → s.period.to ≡ x.period.to → s.tally ≡ x.tally → IsHeadFrom at steps s
head_is at steps x s e r from after least to tally =
    subst (λ v. IsHeadFrom at v s) (sym e)
    (head_of at x (drop 1 steps) s (subst AreStepsApart e r) from after least to tally)

-- ---- the next step of two lists

pub next_both : (at : ℤ) (xs ys : List Step) (x y s : Step) → IsHeadFrom at xs x → IsHeadFrom at ys y
    → IsFirstOfBoth x y s → IsNextStep at xs ys s
next_both at xs ys x y s h k f =
    record {
      from = f.from at h.from k.from;
      left_ends = λ v m.
          (let a : x.period.to ≤ℤ v.period.to = h.ends v m in let b = f.to_left in omega (arith, ints));
      right_ends = λ v m.
          (let a : y.period.to ≤ℤ v.period.to = k.ends v m in let b = f.to_right in omega (arith, ints));
      tallies = λ t on early.
          let ex : t <ℤ x.period.to = (let b = f.to_left in omega (arith, ints)) in
          let ey : t <ℤ y.period.to = (let b = f.to_right in omega (arith, ints)) in
          f.tallies t early ∙ ap (λ (o : Option Tally). both o (tally_at (y ∷ []) t)) (h.tallies t on ex)
          ∙ ap (λ (o : Option Tally). both (tally_at xs t) o) (k.tallies t on ey);
    }

-- two heads can be added if the lists can
pub heads_add : (at : ℤ) (xs ys : List Step) (x y : Step) → CanAdd xs ys → IsHeadFrom at xs x → IsHeadFrom at ys y
    → CanAddTallies x.tally y.tally
heads_add at xs ys x y can h k =
    subst (λ v. CanAddTallies v y.tally) (sym h.tally)
    (subst (λ v. CanAddTallies h.origin.tally v) (sym k.tally) (can h.origin k.origin h.origin_in k.origin_in))

-- ---- steps that are passed

later_end : (at : ℤ) (x : Step) (xs : List Step) → AreStepsApart (x ∷ xs) → at ≤ℤ x.period.to → EndsBeyond at xs
later_end at x xs r h s k =
    let f : x.period.to ≤ℤ s.period.from = apart_head x xs s r k in
    let g : s.period.from <ℤ s.period.to = s.period.ordered in omega (arith, ints)

pub beyond_keep : (at : ℤ) (steps : List Step) (x : Step) → steps ≡ x ∷ drop 1 steps → AreStepsApart steps
    → at <ℤ x.period.to → IsBeyond at steps steps
beyond_keep at steps x e r h =
    record {
      same = λ t k. refl;
      beyond = subst (EndsBeyond at) (sym e) (λ s k. elim (Contains-cons_cases x (drop 1 steps) s k) [
        | inl f ↦ subst (λ (v : Step). at <ℤ v.period.to) f h
        | inr m ↦ later_end at x (drop 1 steps) (subst AreStepsApart e r) (omega (arith, ints)) s m
      ]);
      apart = r;
      within = λ s k. k;
    }

pub beyond_drop : (at : ℤ) (steps : List Step) (x : Step) → steps ≡ x ∷ drop 1 steps → AreStepsApart steps
    → EndsFrom at steps → x.period.to ≤ℤ at → IsBeyond at steps (drop 1 steps)
beyond_drop at steps x e r ends h =
    let apart : AreStepsApart (x ∷ drop 1 steps) = subst AreStepsApart e r in
    let reach : EndsFrom at (x ∷ drop 1 steps) = subst (EndsFrom at) e ends in
    record {
      same = λ t k. ap (λ v. tally_at v t) e ∙ at_late x (drop 1 steps) t (omega (arith, ints));
      beyond = later_end at x (drop 1 steps) apart (reach x (Contains-head x (drop 1 steps)));
      apart = apart_tail x (drop 1 steps) apart;
      within = λ s k. subst (λ v. Contains v s) (sym e) (Contains-cons x (drop 1 steps) s k);
    }

-- ---- the starts of the lists

pub starts_none : (at : ℤ) (steps : List Step) → steps ≡ [] → StartsFrom at steps
starts_none at steps e = subst (StartsFrom at) (sym e) (λ s h. absurd (Contains-none s h))

pub starts_head : (at : ℤ) (steps : List Step) (x : Step) → steps ≡ x ∷ drop 1 steps → AreStepsApart steps
    → at ≤ℤ x.period.from → StartsFrom at steps
starts_head at steps x e r h =
    let apart : AreStepsApart (x ∷ drop 1 steps) = subst AreStepsApart e r in
    let proper : x.period.from <ℤ x.period.to = x.period.ordered in
    subst (StartsFrom at) (sym e) (λ s k. elim (Contains-cons_cases x (drop 1 steps) s k) [
      | inl f ↦ subst (λ (v : Step). at ≤ℤ v.period.from) f h
      | inr m ↦ (let g : x.period.to ≤ℤ s.period.from = apart_head x (drop 1 steps) s apart m in omega (arith, ints))
    ])

-- ---- the loop

-- The steps made until now, followed by the sum of the remaining steps from `at` on, are the whole sum.
pub record IsCombining (one other lefts rights : List Step) (at : ℤ) (now : List Step) : Type 0 where
  pub goes_on : (rest : List Step) → IsBothFrom at lefts rights rest → IsBothSteps one other (now ++ rest)
  pub left_apart : AreStepsApart lefts
  pub right_apart : AreStepsApart rights
  pub left_beyond : EndsBeyond at lefts
  pub right_beyond : EndsBeyond at rights
  pub can_add : CanAdd lefts rights

-- two steps that start together
pub starts_together : (x y s : Step) → y.period.from ≤ℤ x.period.from → x.period.from ≤ℤ y.period.from
    → s.period.from ≡ x.period.from → s.period.to ≡ int_min x.period.to y.period.to
    → Some s.tally ≡ both (Some x.tally) (Some y.tally) → IsFirstOfBoth x y s
starts_together x y s later early from to tally = record {
  from = λ at a b. omega (arith, ints);
  to_left = omega (arith, ints, clamps);
  to_right = omega (arith, ints, clamps);
  tallies = λ t h.
      (let hx : t <ℤ x.period.to = omega (arith, ints, clamps) in
      let hy : t <ℤ y.period.to = omega (arith, ints, clamps) in
      elim (by_order s.period.from t) [
        | inl on ↦
            at_yes s [] t on h ∙ tally
            ∙ ap (λ (o : Option Tally). both o (Some y.tally)) (sym (at_yes x [] t (omega (arith, ints)) hx))
            ∙ ap (λ (o : Option Tally). both (tally_at (x ∷ []) t) o) (sym (at_yes y [] t (omega (arith, ints)) hy))
        | inr before ↦
            at_early s [] t before
            ∙ ap (λ (o : Option Tally). both o None) (sym (at_early x [] t (omega (arith, ints))))
            ∙ ap (λ (o : Option Tally). both (tally_at (x ∷ []) t) o) (sym (at_early y [] t (omega (arith, ints))))
      ]);
}

start_beyond : (at : ℤ) (steps : List Step) → StartsFrom at steps → EndsBeyond at steps
start_beyond at steps h s k =
    let f : at ≤ℤ s.period.from = h s k in
    let g : s.period.from <ℤ s.period.to = s.period.ordered in omega (arith, ints)

nothing_before : (at : ℤ) (steps : List Step) (t : ℤ) → StartsFrom at steps → t <ℤ at → tally_at steps t ≡ None
nothing_before at steps t h early =
    at_none steps t (λ s k. let f : at ≤ℤ s.period.from = h s k in omega (arith, ints))

pub combining_start : (one other : List Step) (at : ℤ) → AreStepsApart one → AreStepsApart other → CanAdd one other
    → StartsFrom at one → StartsFrom at other → IsCombining one other one other at []
combining_start one other at r s can a b =
    record {
      goes_on = λ rest h. record {
        apart = h.apart;
        tallies = λ t. elim (by_order at t) [
          | inl on ↦ h.tallies t on
          | inr early ↦
              nothing_before at rest t h.starts early
              ∙ ap (λ (o : Option Tally). both None o) (sym (nothing_before at other t b early))
              ∙ ap (λ (o : Option Tally). both o (tally_at other t)) (sym (nothing_before at one t a early))
        ];
      };
      left_apart = r;
      right_apart = s;
      left_beyond = start_beyond at one a;
      right_beyond = start_beyond at other b;
      can_add = can;
    }

pub combining_more : (one other lefts rights lefts' rights' : List Step) (at to : ℤ) (s : Step) (now new : List Step)
    → to ≡ s.period.to → new ≡ now ++ s ∷ [] → IsNextStep at lefts rights s → IsBeyond to lefts lefts'
    → IsBeyond to rights rights' → IsCombining one other lefts rights at now
    → IsCombining one other lefts' rights' to new
combining_more one other lefts rights lefts' rights' at to s now new e f next l r i =
    record {
      goes_on = λ rest h.
          let b : IsBothFrom at lefts rights (s ∷ rest) =
          stepped at lefts rights lefts' rights' s rest next.from next.tallies
          (λ t k. l.same t (omega (arith, ints))) (λ t k. r.same t (omega (arith, ints)))
          (subst (λ v. IsBothFrom v lefts' rights' rest) e h) in
          subst (IsBothSteps one other) (sym (ap (λ v. v ++ rest) f ∙ append_assoc now (s ∷ []) rest))
          (i.goes_on (s ∷ rest) b);
      left_apart = l.apart;
      right_apart = r.apart;
      left_beyond = l.beyond;
      right_beyond = r.beyond;
      can_add = λ x y h k. i.can_add x y (l.within x h) (r.within y k);
    }

none_from : (at : ℤ) → IsBothFrom at [] [] []
none_from at = record { apart = apart_none; starts = λ s h. absurd (Contains-none s h); tallies = λ t h. refl }

pub combining_end : (one other lefts rights : List Step) (at : ℤ) (now : List Step) → lefts ≡ [] → rights ≡ []
    → IsCombining one other lefts rights at now → IsBothSteps one other now
combining_end one other lefts rights at now e f i =
    subst (IsBothSteps one other) (append-nil now)
    (i.goes_on []
    (subst (λ v. IsBothFrom at v rights []) (sym e) (subst (λ v. IsBothFrom at [] v []) (sym f) (none_from at))))

tally_made : ℕ → ℤ → ℤ → ℤ → Tally
tally_made count sum min max = record { count = count; sum = sum; min = min; max = max }

-- a tally is determined by its four numbers
pub Tally-same : (a b : Tally) → a.count ≡ b.count → a.sum ≡ b.sum → a.min ≡ b.min → a.max ≡ b.max → a ≡ b
unfolding tally_made
Tally-same a b count sum min max =
    ap (λ z. tally_made z a.sum a.min a.max) count ∙ ap (λ z. tally_made b.count z a.min a.max) sum
    ∙ ap (λ z. tally_made b.count b.sum z a.max) min ∙ ap (λ z. tally_made b.count b.sum b.min z) max

pub Some-tally : (a b : Tally) → a.count ≡ b.count → a.sum ≡ b.sum → a.min ≡ b.min → a.max ≡ b.max → Some a ≡ Some b
Some-tally a b count sum min max = ap (λ (v : Tally). Some v) (Tally-same a b count sum min max)

-- ---- the same at an equal instant

pub starts_same : (steps : List Step) (a b : ℤ) → a ≡ b → StartsFrom b steps → StartsFrom a steps
starts_same steps a b e h = subst (λ v. StartsFrom v steps) (sym e) h

pub ends_same : (steps : List Step) (a b : ℤ) → a ≡ b → EndsFrom b steps → EndsFrom a steps
ends_same steps a b e h = subst (λ v. EndsFrom v steps) (sym e) h
