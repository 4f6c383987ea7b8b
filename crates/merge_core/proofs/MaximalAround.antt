-- A bounded decidable set has exactly one maximal period around each of its instants.
use Rattle.std.proofs.Common.{◌≡◌, ℕ, zero, suc, ◌⊎◌, inl, inr, subst, arith}
use Rattle.std.specs.Prelude.{ℤ, pos, ◌-ℤ◌, ◌+ℤ◌, ◌≤ℤ◌, ◌<ℤ◌, nat_abs}
use Rattle.std.proofs.lemmas.Int.{ints}
use Rattle.std.specs.Int.Signed.{yes_non_neg, pos-nat_abs, non_neg}
use Rattle.std.proofs.Math.Dec.{T}
use Rattle.period_core.specs.declared.period.Period.{Period}
use Rattle.period_core.specs.Period.{Holds}
use Rattle.period_core.proofs.PeriodLemmas.{Period-same}
use Rattle.merge_core.specs.Gaps.{IsMaximal}
use Rattle.merge_core.proofs.SharedLemmas.{by_order}

module _ (S : ℤ → Type 0) (test : (t : ℤ) → S t ⊎ (S t → ⊥)) where
  -- the set ends at most `n` instants after `t`
  ends_above : (n : ℕ) (t : ℤ) → S t → (S (t +ℤ pos n) → ⊥)
      → (e : ℤ) × (t <ℤ e) × ((u : ℤ) → t ≤ℤ u → u <ℤ e → S u) × (S e → ⊥)
  ends_above zero t s out = absurd (out (subst S (omega (arith, ints)) s))
  ends_above (suc n) t s out =
      elim (test (t +ℤ pos 1)) [
        | inl m ↦ (
            let far : S ((t +ℤ pos 1) +ℤ pos n) → ⊥ =
            λ r. out (let e : (t +ℤ pos 1) +ℤ pos n ≡ t +ℤ pos (suc n) = omega (arith, ints) in subst S e r) in
            let k = ends_above n (t +ℤ pos 1) m far in (
              k.0,
              omega (arith, ints, k.1),
              (λ u lo hi. elim (by_order u t) [
                | inl h ↦ (let e : t ≡ u = omega (arith, ints) in subst S e s)
                | inr h ↦ k.2 u (omega (arith, ints)) hi
              ]),
              k.3,
            ))
        | inr m ↦ (
          t +ℤ pos 1,
          omega (arith, ints),
          (λ u lo hi. let e : t ≡ u = omega (arith, ints) in subst S e s),
          m,
        )
      ]

  -- the set starts at most `n` instants before `t`
  starts_below : (n : ℕ) (t : ℤ) → S t → (S (t -ℤ pos n) → ⊥)
      → (b : ℤ) × (b ≤ℤ t) × ((u : ℤ) → b ≤ℤ u → u ≤ℤ t → S u) × (S (b -ℤ pos 1) → ⊥)
  starts_below zero t s out = absurd (out (subst S (omega (arith, ints)) s))
  starts_below (suc n) t s out =
      elim (test (t -ℤ pos 1)) [
        | inl m ↦ (
            let far : S ((t -ℤ pos 1) -ℤ pos n) → ⊥ =
            λ r. out (let e : (t -ℤ pos 1) -ℤ pos n ≡ t -ℤ pos (suc n) = omega (arith, ints) in subst S e r) in
            let k = starts_below n (t -ℤ pos 1) m far in (
              k.0,
              omega (arith, ints, k.1),
              (λ u lo hi. elim (by_order t u) [
                | inl h ↦ (let e : t ≡ u = omega (arith, ints) in subst S e s)
                | inr h ↦ k.2 u lo (omega (arith, ints))
              ]),
              k.3,
            ))
        | inr m ↦ (t, omega (arith, ints), (λ u lo hi. let e : t ≡ u = omega (arith, ints) in subst S e s), m)
      ]

  pub maximal_around : (lo hi : ℤ) → ((t : ℤ) → S t → lo ≤ℤ t) → ((t : ℤ) → S t → t <ℤ hi) → (t : ℤ) → S t
      → (p : Period) × Holds p t × IsMaximal S p
  maximal_around lo hi above below t s =
      let up = ends_above (nat_abs (hi -ℤ t)) t s (λ r. past hi t (below t s) (below _ r)) in
      let down = starts_below (nat_abs ((t -ℤ lo) +ℤ pos 1)) t s (λ r. before lo t (above t s) (above _ r)) in (
        record { from = down.0; to = up.0; ordered = omega (arith, ints, down.1, up.1) },
        (down.1, up.1),
        record {
          inside = λ u h. elim (by_order u t) [ inl k ↦ down.2 u h.0 k | inr k ↦ up.2 u (omega (arith, ints)) h.1 ];
          before = down.3;
          after = up.3;
        },
      )
    where
      past : (hi t : ℤ) → t <ℤ hi → (t +ℤ pos (nat_abs (hi -ℤ t))) <ℤ hi → ⊥
      past hi t a b =
          let n : T (non_neg (hi -ℤ t)) = yes_non_neg (omega (arith, ints)) in
          let e : pos (nat_abs (hi -ℤ t)) ≡ hi -ℤ t = pos-nat_abs (hi -ℤ t) n in
          let c : (t +ℤ (hi -ℤ t)) <ℤ hi = subst (λ v. (t +ℤ v) <ℤ hi) e b in
          omega (arith, ints)

      before : (lo t : ℤ) → lo ≤ℤ t → lo ≤ℤ (t -ℤ pos (nat_abs ((t -ℤ lo) +ℤ pos 1))) → ⊥
      before lo t a b =
          let n : T (non_neg ((t -ℤ lo) +ℤ pos 1)) = yes_non_neg (omega (arith, ints)) in
          let e : pos (nat_abs ((t -ℤ lo) +ℤ pos 1)) ≡ (t -ℤ lo) +ℤ pos 1 = pos-nat_abs ((t -ℤ lo) +ℤ pos 1) n in
          let c : lo ≤ℤ (t -ℤ ((t -ℤ lo) +ℤ pos 1)) = subst (λ v. lo ≤ℤ (t -ℤ v)) e b in
          omega (arith, ints)

-- ---- only one maximal period holds an instant

-- of two maximal periods that hold an instant, neither starts before the other
no-earlier : (Within : ℤ → Type 0) (p q : Period) (t : ℤ) → IsMaximal Within p → IsMaximal Within q → Holds p t
    → Holds q t → q.from ≤ℤ p.from
no-earlier Within p q t a b hp hq =
    elim (by_order q.from p.from) [
      | inl h ↦ h
      | inr h ↦ absurd (b.before (a.inside (q.from -ℤ pos 1)
          (let lo = hq.0 in let hi = hp.1 in (omega (arith, ints), omega (arith, ints)))))
    ]

-- and neither ends after the other
no-later : (Within : ℤ → Type 0) (p q : Period) (t : ℤ) → IsMaximal Within p → IsMaximal Within q → Holds p t
    → Holds q t → q.to ≤ℤ p.to
no-later Within p q t a b hp hq =
    elim (by_order q.to p.to) [
      | inl h ↦ h
      | inr h ↦ absurd (a.after (b.inside p.to
          (let lo = hq.0 in let hi = hp.1 in (omega (arith, ints), h))))
    ]

-- so they are equal
pub maximal-once : (Within : ℤ → Type 0) (p q : Period) (t : ℤ) → IsMaximal Within p → IsMaximal Within q → Holds p t
    → Holds q t → p ≡ q
maximal-once Within p q t a b hp hq =
    let one : q.from ≤ℤ p.from = no-earlier Within p q t a b hp hq in
    let other : p.from ≤ℤ q.from = no-earlier Within q p t b a hq hp in
    let last : q.to ≤ℤ p.to = no-later Within p q t a b hp hq in
    let end : p.to ≤ℤ q.to = no-later Within q p t b a hq hp in
    Period-same p q (omega (arith, ints)) (omega (arith, ints))
