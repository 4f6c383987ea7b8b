-- The maximal periods of a set of instants, and of the set without a period.
use Rattle.std.proofs.Common.{◌≡◌, ◌⊎◌, ◌↔◌, List, [], ◌∷◌, ◌++◌, Option, Some, None, inl, inr, sym, subst, arith}
use Rattle.std.specs.Prelude.{ℤ, pos, ◌-ℤ◌, ◌≤ℤ◌, ◌<ℤ◌, Contains}
use Rattle.std.specs.Option.{option_to_list}
use Rattle.std.proofs.lemmas.Int.{ints}
use Rattle.std.proofs.lemmas.List.Elements.{Contains-append_left, Contains-append_right, Contains-append_cases}
use Rattle.period_core.specs.declared.period.Period.{Period}
use Rattle.period_core.specs.Period.{Holds, HoldsIn, before, after}
use Rattle.period_core.proofs.PeriodLemmas.{before-holds, after-holds}
use Rattle.list_core.proofs.RisingLemmas.{Contains-head, Contains-cons, Contains-cons_cases, Contains-none}
use Rattle.merge_core.specs.Gaps.{IsMaximal}
use Rattle.merge_core.proofs.SharedLemmas.{by_order, first_held}
use Rattle.merge_core.proofs.SweepLemmas.{IsMaximal-same}

-- The periods are maximal in the set, and together they hold all of it.
pub record AreMaximal (Within : ℤ → Type 0) (periods : List Period) : Type 0 where
  pub maximal : (p : Period) → Contains periods p → IsMaximal Within p
  pub all : (t : ℤ) → Within t → (p : Period) × Contains periods p × Holds p t

-- equal sets have the same maximal periods
pub AreMaximal-same : (S R : ℤ → Type 0) (periods : List Period) → ((t : ℤ) → S t → R t) → ((t : ℤ) → R t → S t)
    → AreMaximal S periods → AreMaximal R periods
AreMaximal-same S R periods to back are = record {
  maximal = λ p h. IsMaximal-same S R p to back (are.maximal p h);
  all = λ t w. are.all t (back t w);
}

-- ---- the instants of a period

-- a period is the only maximal period of its instants
pub AreMaximal-whole : (p : Period) → AreMaximal (Holds p) (p ∷ [])
AreMaximal-whole p = record {
  maximal = λ q h. elim (Contains-cons_cases p [] q h) [
    | inl e ↦ subst (IsMaximal (Holds p)) e (record {
      inside = λ t k. k;
      before = λ k. (let lo = k.0 in omega (arith, ints));
      after = λ k. (let hi = k.1 in omega (arith, ints));
    })
    | inr none ↦ absurd (Contains-none q none)
  ];
  all = λ t h. (p, Contains-head p [], h);
}

-- ---- without a period

-- The instants of the set that the period doesn't hold.
abbrev pub Without : (ℤ → Type 0) → Period → ℤ → Type 0
Without Within k t = Within t × (Holds k t → ⊥)

-- the rest of a maximal period before the other one begins is maximal
before-maximal : (Within : ℤ → Type 0) (k p q : Period) → IsMaximal Within p
    → ((t : ℤ) → Holds q t ↔ (Holds p t × (t <ℤ k.from))) → IsMaximal (Without Within k) q
before-maximal Within k p q m holds =
    let proper : q.from <ℤ q.to = q.ordered in
    let whole : k.from <ℤ k.to = k.ordered in
    let first = (holds q.from).0 (first_held q) in
    let starts : p.from ≤ℤ q.from = first.0.0 in
    let inside : q.from <ℤ p.to = first.0.1 in
    let early : q.from <ℤ k.from = first.1 in
    let back = (holds p.from).1 ((omega (arith, ints), p.ordered), omega (arith, ints)) in
    let begins : q.from ≤ℤ p.from = back.0 in
    let last = (holds (q.to -ℤ pos 1)).0 (omega (arith, ints), omega (arith, ints)) in
    let ends : (q.to -ℤ pos 1) <ℤ p.to = last.0.1 in
    let stops : (q.to -ℤ pos 1) <ℤ k.from = last.1 in
    record {
      inside = λ t h. (let at = (holds t).0 h in
          (m.inside t at.0, λ c. let lo = c.0 in let hi = at.1 in omega (arith, ints)));
      before = λ w. m.before (let e : q.from -ℤ pos 1 ≡ p.from -ℤ pos 1 = omega (arith, ints) in subst Within e w.0);
      after = λ w. elim (by_order k.from q.to) [
        | inl h ↦ w.1 (h, omega (arith, ints))
        | inr h ↦ elim (by_order p.to q.to) [
          | inl i ↦ m.after (let e : q.to ≡ p.to = omega (arith, ints) in subst Within e w.0)
          | inr i ↦ (let c = (holds q.to).1 ((omega (arith, ints), i), h) in let hi : q.to <ℤ q.to = c.1 in
              omega (arith, ints))
        ]
      ];
    }

-- so is the rest after its end
after-maximal : (Within : ℤ → Type 0) (k p q : Period) → IsMaximal Within p
    → ((t : ℤ) → Holds q t ↔ (Holds p t × (k.to ≤ℤ t))) → IsMaximal (Without Within k) q
after-maximal Within k p q m holds =
    let proper : q.from <ℤ q.to = q.ordered in
    let whole : k.from <ℤ k.to = k.ordered in
    let first = (holds q.from).0 (first_held q) in
    let starts : p.from ≤ℤ q.from = first.0.0 in
    let inside : q.from <ℤ p.to = first.0.1 in
    let late : k.to ≤ℤ q.from = first.1 in
    let last = (holds (q.to -ℤ pos 1)).0 (omega (arith, ints), omega (arith, ints)) in
    let ends : (q.to -ℤ pos 1) <ℤ p.to = last.0.1 in
    let back = (holds (p.to -ℤ pos 1)).1 ((omega (arith, ints), omega (arith, ints)), omega (arith, ints)) in
    let stops : (p.to -ℤ pos 1) <ℤ q.to = back.1 in
    record {
      inside = λ t h. (let at = (holds t).0 h in
          (m.inside t at.0, λ c. let lo = c.1 in let hi = at.1 in omega (arith, ints)));
      before = λ w. elim (by_order k.to (q.from -ℤ pos 1)) [
        | inr h ↦ w.1 (omega (arith, ints), h)
        | inl h ↦ elim (by_order p.from (q.from -ℤ pos 1)) [
          | inr i ↦ m.before (let e : q.from -ℤ pos 1 ≡ p.from -ℤ pos 1 = omega (arith, ints) in subst Within e w.0)
          | inl i ↦ (let c = (holds (q.from -ℤ pos 1)).1 ((i, omega (arith, ints)), h) in
              let lo : q.from ≤ℤ (q.from -ℤ pos 1) = c.0 in omega (arith, ints))
        ]
      ];
      after = λ w. m.after (let e : q.to ≡ p.to = omega (arith, ints) in subst Within e w.0);
    }

-- a fact about an optional period is a fact about the period in its list
in-list : (met : Option Period) (q : Period) → Contains (option_to_list met) q → (t : ℤ) → Holds q t ↔ HoldsIn met t
in-list None q h t = absurd (Contains-none q h)
in-list (Some p) q h t = elim (Contains-cons_cases p [] q h) [
  | inl e ↦ (λ k. subst (λ (v : Period). Holds v t) (sym e) k, λ k. subst (λ (v : Period). Holds v t) e k)
  | inr none ↦ absurd (Contains-none q none)
]

-- an instant that an optional period holds is held in its list
held-in_list : (met : Option Period) (t : ℤ) → HoldsIn met t
    → (q : Period) × Contains (option_to_list met) q × Holds q t
held-in_list None t h = absurd h
held-in_list (Some p) t h = (p, Contains-head p [], h)

-- equivalence is transitive
both-ways : (A B C : Type 0) → A ↔ B → B ↔ C → A ↔ C
both-ways A B C f g = (λ a. g.0 (f.0 a), λ c. f.1 (g.1 c))

-- The rest of each period without the other one.
cut : Period → List Period → List Period
cut k [] = []
cut k (p ∷ periods) = option_to_list (before p k) ++ (option_to_list (after p k) ++ cut k periods)

-- each result is the rest of some period
cut-source : (k : Period) (periods : List Period) (q : Period) → Contains (cut k periods) q
    → (p : Period) × Contains periods p
    × (Contains (option_to_list (before p k)) q ⊎ Contains (option_to_list (after p k)) q)
unfolding cut
cut-source k [] q h = absurd (Contains-none q h)
cut-source k (p ∷ periods) q h =
    elim (Contains-append_cases (option_to_list (before p k)) (option_to_list (after p k) ++ cut k periods) q h) [
      | inl i ↦ (p, Contains-head p periods, inl i)
      | inr later ↦ elim (Contains-append_cases (option_to_list (after p k)) (cut k periods) q later) [
        | inl i ↦ (p, Contains-head p periods, inr i)
        | inr others ↦ let (r, member, of) = cut-source k periods q others in (r, Contains-cons p periods r member, of)
      ]
    ]

-- the rest of each period is among the results
cut-there : (k : Period) (periods : List Period) (p q : Period) → Contains periods p
    → Contains (option_to_list (before p k)) q ⊎ Contains (option_to_list (after p k)) q → Contains (cut k periods) q
unfolding cut
cut-there k [] p q h of = absurd (Contains-none p h)
cut-there k (r ∷ periods) p q h of =
    elim (Contains-cons_cases r periods p h) [
      | inr later ↦
          Contains-append_right (option_to_list (before r k)) (option_to_list (after r k) ++ cut k periods) q
          (Contains-append_right (option_to_list (after r k)) (cut k periods) q (cut-there k periods p q later of))
      | inl e ↦ elim of [
        | inl i ↦
            Contains-append_left (option_to_list (before r k)) (option_to_list (after r k) ++ cut k periods) q
            (subst (λ v. Contains (option_to_list (before v k)) q) (sym e) i)
        | inr i ↦
            Contains-append_right (option_to_list (before r k)) (option_to_list (after r k) ++ cut k periods) q
            (Contains-append_left (option_to_list (after r k)) (cut k periods) q
            (subst (λ v. Contains (option_to_list (after v k)) q) (sym e) i))
      ]
    ]

-- they are the maximal periods of the rest of the set
cut-maximal : (Within : ℤ → Type 0) (k : Period) (periods : List Period) → AreMaximal Within periods
    → AreMaximal (Without Within k) (cut k periods)
cut-maximal Within k periods are = record {
  maximal = λ q h. (
      let (p, member, of) = cut-source k periods q h in
      elim of [
        | inl i ↦ before-maximal Within k p q (are.maximal p member)
            (λ t. both-ways _ _ _ (in-list (before p k) q i t) (before-holds p k t))
        | inr i ↦ after-maximal Within k p q (are.maximal p member)
            (λ t. both-ways _ _ _ (in-list (after p k) q i t) (after-holds p k t))
      ]);
  all = λ t w. (
      let (p, member, held) = are.all t w.0 in
      elim (by_order k.from t) [
        | inr early ↦
            let (q, i, h) = held-in_list (before p k) t ((before-holds p k t).1 (held, early)) in
            (q, cut-there k periods p q member (inl i), h)
        | inl late ↦ elim (by_order k.to t) [
          | inr inside ↦ absurd (w.1 (late, inside))
          | inl behind ↦
              let (q, i, h) = held-in_list (after p k) t ((after-holds p k t).1 (held, behind)) in
              (q, cut-there k periods p q member (inr i), h)
        ]
      ]);
}

-- the rest of a set without a period has a list of maximal periods if the set has one
pub some_without : (Within : ℤ → Type 0) (k : Period) (periods : List Period) → AreMaximal Within periods
    → (left : List Period) × AreMaximal (Without Within k) left
some_without Within k periods are = (cut k periods, cut-maximal Within k periods are)
