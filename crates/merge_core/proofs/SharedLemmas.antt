-- Periods by their instants, and what two periods share.
use Rattle.std.proofs.Common.{◌≡◌, ◌⊎◌, inl, inr, arith}
use Rattle.std.specs.Prelude.{ℤ, pos, ◌-ℤ◌, ◌≤ℤ◌, ◌<ℤ◌}
use Rattle.std.proofs.lemmas.Int.{ints, by_lt_z}
use Rattle.period_core.specs.declared.period.Period.{Period}
use Rattle.period_core.specs.Period.{Holds}
use Rattle.period_core.proofs.PeriodLemmas.{Period-same}
use Rattle.merge_core.specs.Hits.{IsShared}

-- two instants are ordered
pub by_order : (a b : ℤ) → (a ≤ℤ b) ⊎ (b <ℤ a)
by_order a b = by_lt_z b a (λ h. inr h) (λ h. inl h)

-- a period holds its first instant
pub first_held : (p : Period) → Holds p p.from
first_held p = (omega (arith, ints), p.ordered)

-- periods with the same instants are equal
pub Period-by_instants : (p q : Period) → ((t : ℤ) → Holds p t → Holds q t) → ((t : ℤ) → Holds q t → Holds p t) → p ≡ q
Period-by_instants p q to back =
    let a : Holds q p.from = to p.from (first_held p) in
    let b : Holds p q.from = back q.from (first_held q) in
    let from : p.from ≡ q.from = omega (arith, ints) in
    let ends : p.to ≡ q.to =
    elim (by_order p.to q.to) [
      | inr h ↦ absurd (
          let c : Holds p q.to = (omega (arith, ints), h) in
          let d : Holds q q.to = to q.to c in omega (arith, ints))
      | inl h ↦ elim (by_order q.to p.to) [
        | inr k ↦ absurd (
            let c : Holds q p.to = (omega (arith, ints), k) in
            let d : Holds p p.to = back p.to c in omega (arith, ints))
        | inl k ↦ omega (arith, ints)
      ]
    ] in
    Period-same p q from ends

-- the shared period starts no earlier and ends no later than either period
pub shared_ends : (a b p : Period) → IsShared a b p
    → (a.from ≤ℤ p.from) × (b.from ≤ℤ p.from) × (p.to ≤ℤ a.to) × (p.to ≤ℤ b.to)
shared_ends a b p shared =
    let proper : p.from <ℤ p.to = p.ordered in
    let f = (shared p.from).0 (first_held p) in
    let l = (shared (p.to -ℤ pos 1)).0 (omega (arith, ints), omega (arith, ints)) in
    let fa : Holds a p.from = f.0 in
    let fb : Holds b p.from = f.1 in
    let la : Holds a (p.to -ℤ pos 1) = l.0 in
    let lb : Holds b (p.to -ℤ pos 1) = l.1 in
    (fa.0, fb.0, omega (arith, ints), omega (arith, ints))

-- two periods share at most one period
pub shared_once : (a b p q : Period) → IsShared a b p → IsShared a b q → p ≡ q
shared_once a b p q s r = Period-by_instants p q (λ t h. (r t).1 ((s t).0 h)) (λ t h. (s t).1 ((r t).0 h))
