-- The tally of a list of steps at an instant, and one step of adding two lists.
use Rattle.std.proofs.Common.{◌≡◌, List, [], ◌∷◌, Bool, true, false, cond, Option, Some, None, inl, inr, sym, subst, ap, ◌∙◌, arith}
use Rattle.std.specs.Prelude.{ℤ, ◌≤ℤ◌, ◌<ℤ◌, Contains, refl}
use Rattle.std.proofs.lemmas.Int.{ints}
use Rattle.period_core.specs.declared.period.Period.{Period}
use Rattle.period_core.specs.Period.{Holds, holds_at}
use Rattle.list_core.proofs.RisingLemmas.{AllPairs-head, AllPairs-tail, Contains-head, Contains-cons, Contains-cons_cases, Contains-none}
use Rattle.list_core.proofs.WantedLemmas.{AllPairs-before}
use Rattle.merge_core.specs.declared.tally.Tally.{Tally}
use Rattle.merge_core.specs.declared.step.Step.{Step}
use Rattle.merge_core.specs.Tallies.{both}
use Rattle.merge_core.specs.Steps.{tally_at, IsTallyHeldAt, AreStepsApart}
use Rattle.merge_core.specs.Combining.{IsBothFrom}
use Rattle.merge_core.proofs.SharedLemmas.{by_order}

pub apart_head : (x : Step) (xs : List Step) (s : Step) → AreStepsApart (x ∷ xs) → Contains xs s
    → x.period.to ≤ℤ s.period.from
apart_head x xs s r h = AllPairs-head (λ (a b : Step). a.period.to ≤ℤ b.period.from) x xs s r h

pub apart_tail : (x : Step) (xs : List Step) → AreStepsApart (x ∷ xs) → AreStepsApart xs
apart_tail x xs r = AllPairs-tail (λ (a b : Step). a.period.to ≤ℤ b.period.from) x xs r

pub apart_none : AreStepsApart []
apart_none i j d less h = absurd (omega arith)

pub apart_cons : (x : Step) (xs : List Step) → ((s : Step) → Contains xs s → x.period.to ≤ℤ s.period.from)
    → AreStepsApart xs → AreStepsApart (x ∷ xs)
apart_cons x xs first rest = AllPairs-before (λ (a b : Step). a.period.to ≤ℤ b.period.from) x xs first rest

pub holds_yes : (p : Period) (t : ℤ) → p.from ≤ℤ t → t <ℤ p.to → holds_at t p ≡ true
holds_yes p t a b = grind (arith, ints)

pub holds_early : (p : Period) (t : ℤ) → t <ℤ p.from → holds_at t p ≡ false
holds_early p t a = grind (arith, ints)

pub holds_late : (p : Period) (t : ℤ) → p.to ≤ℤ t → holds_at t p ≡ false
holds_late p t a = grind (arith, ints)

pub at_yes : (s : Step) (ss : List Step) (t : ℤ) → s.period.from ≤ℤ t → t <ℤ s.period.to
    → tally_at (s ∷ ss) t ≡ Some s.tally
at_yes s ss t a b = ap (λ (c : Bool). cond c (Some s.tally) (tally_at ss t)) (holds_yes s.period t a b)

pub at_early : (s : Step) (ss : List Step) (t : ℤ) → t <ℤ s.period.from → tally_at (s ∷ ss) t ≡ tally_at ss t
at_early s ss t a = ap (λ (c : Bool). cond c (Some s.tally) (tally_at ss t)) (holds_early s.period t a)

pub at_late : (s : Step) (ss : List Step) (t : ℤ) → s.period.to ≤ℤ t → tally_at (s ∷ ss) t ≡ tally_at ss t
at_late s ss t a = ap (λ (c : Bool). cond c (Some s.tally) (tally_at ss t)) (holds_late s.period t a)

-- before all steps start there is no tally
pub at_none : (ss : List Step) (t : ℤ) → ((s : Step) → Contains ss s → t <ℤ s.period.from) → tally_at ss t ≡ None
at_none [] t before = refl
at_none (s ∷ ss) t before =
    at_early s ss t (before s (Contains-head s ss)) ∙ at_none ss t (λ r h. before r (Contains-cons s ss r h))

-- before the first step ends, the later ones don't matter
pub at_first : (x : Step) (xs : List Step) (t : ℤ) → AreStepsApart (x ∷ xs) → t <ℤ x.period.to
    → tally_at (x ∷ xs) t ≡ tally_at (x ∷ []) t
at_first x xs t r early =
    ap (λ (o : Option Tally). cond (holds_at t x.period) (Some x.tally) o)
    (at_none xs t (λ s h. let after : x.period.to ≤ℤ s.period.from = apart_head x xs s r h in omega (arith, ints)))

-- a step that doesn't hold `t` makes no difference
held_more : (s : Step) (ss : List Step) (t : ℤ) (o : Option Tally) → (Holds s.period t → ⊥) → IsTallyHeldAt ss t o
    → IsTallyHeldAt (s ∷ ss) t o
held_more s ss t None out none = λ r h k.
    elim (Contains-cons_cases s ss r h) [
      | inl e ↦ out (subst (λ (v : Step). Holds v.period t) (sym e) k)
      | inr l ↦ none r l k
    ]
held_more s ss t (Some a) out i =
    record {
      step = i.step;
      step_in = Contains-cons s ss i.step i.step_in;
      held = i.held;
      same = i.same;
      only = λ r h k. elim (Contains-cons_cases s ss r h) [
        | inl e ↦ absurd (out (subst (λ (v : Step). Holds v.period t) (sym e) k))
        | inr l ↦ i.only r l k
      ];
    }

-- among disjoint steps at most one holds `t`, and its tally is the tally there
pub tally_held : (ss : List Step) (t : ℤ) → AreStepsApart ss → IsTallyHeldAt ss t (tally_at ss t)
tally_held [] t apart = λ r h k. Contains-none r h
tally_held (s ∷ ss) t apart =
    let rest : IsTallyHeldAt ss t (tally_at ss t) = tally_held ss t (apart_tail s ss apart) in
    elim (by_order s.period.from t) [
      | inr early ↦ subst (IsTallyHeldAt (s ∷ ss) t) (sym (at_early s ss t early))
          (held_more s ss t (tally_at ss t) (λ k. let from : s.period.from ≤ℤ t = k.0 in omega (arith, ints)) rest)
      | inl from ↦ elim (by_order s.period.to t) [
        | inl late ↦ subst (IsTallyHeldAt (s ∷ ss) t) (sym (at_late s ss t late))
            (held_more s ss t (tally_at ss t) (λ k. let to : t <ℤ s.period.to = k.1 in omega (arith, ints)) rest)
        | inr to ↦ subst (IsTallyHeldAt (s ∷ ss) t) (sym (at_yes s ss t from to)) (record {
          step = s;
          step_in = Contains-head s ss;
          held = (from, to);
          same = refl;
          only = λ r h k. elim (Contains-cons_cases s ss r h) [
            | inl e ↦ sym e
            | inr l ↦ absurd (
                let after : s.period.to ≤ℤ r.period.from = apart_head s ss r apart l in
                let on : r.period.from ≤ℤ t = k.0 in omega (arith, ints))
          ];
        })
      ]
    ]

-- `s` comes first, and then the sum from its end on
pub stepped : (at : ℤ) (xs ys xs' ys' : List Step) (s : Step) (rest : List Step) → at ≤ℤ s.period.from
    → ((t : ℤ) → at ≤ℤ t → t <ℤ s.period.to → tally_at (s ∷ []) t ≡ both (tally_at xs t) (tally_at ys t))
    → ((t : ℤ) → s.period.to ≤ℤ t → tally_at xs t ≡ tally_at xs' t)
    → ((t : ℤ) → s.period.to ≤ℤ t → tally_at ys t ≡ tally_at ys' t)
    → IsBothFrom s.period.to xs' ys' rest → IsBothFrom at xs ys (s ∷ rest)
stepped at xs ys xs' ys' s rest from first same same' b =
    let proper : s.period.from <ℤ s.period.to = s.period.ordered in
    let apart : AreStepsApart (s ∷ rest) = apart_cons s rest b.starts b.apart in
    record {
      apart = apart;
      starts = λ r h. elim (Contains-cons_cases s rest r h) [
        | inl e ↦ subst (λ (v : Step). at ≤ℤ v.period.from) e from
        | inr k ↦ (let after : s.period.to ≤ℤ r.period.from = b.starts r k in omega (arith, ints))
      ];
      tallies = λ t on. elim (by_order s.period.to t) [
        | inl late ↦
            at_late s rest t late ∙ b.tallies t late ∙ ap (λ z. both z (tally_at ys' t)) (sym (same t late))
            ∙ ap (λ z. both (tally_at xs t) z) (sym (same' t late))
        | inr early ↦ at_first s rest t apart early ∙ first t on early
      ];
    }
