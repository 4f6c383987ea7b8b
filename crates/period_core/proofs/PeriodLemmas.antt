-- Facts about instants from the ends of periods, and about the ends from instants.
use Rattle.std.proofs.Common.{◌≡◌, refl, sym, ap, subst, ◌≤ℤ◌, ◌<ℤ◌, ◌-ℤ◌, ℤ, pos, arith, ◌↔◌, Bool, true, false, Some}
use Rattle.std.specs.Prelude.{int_lt}
use Rattle.std.proofs.Common.{cond}
use Rattle.std.specs.Ordering.{is_lt, int_cmp, ord_max, ord_min}
use Rattle.std.specs.declared.cmp.Ordering.TheVariants.{Less, Equal, Greater}
use Rattle.std.specs.Int.{int_min, int_max}
use Rattle.std.proofs.lemmas.Int.{ints, clamps, by_lt_z}
use Rattle.std.proofs.Props.{props}
use Rattle.period_core.specs.declared.period.Period.{Period}
use Rattle.period_core.specs.Period.{Holds, HoldsIn, Overlap, Precedes, PrecedesAtOnce, between, between_if, meet, before, after}

-- the later of the two starts is a common instant
pub Overlap-from_ends : (x y : Period) → x.from <ℤ y.to → y.from <ℤ x.to → Overlap x y
Overlap-from_ends x y first second =
    let one : x.from <ℤ x.to = x.ordered in
    let other : y.from <ℤ y.to = y.ordered in
    by_lt_z x.from y.from
    (λ later. (y.from, (omega (arith, ints), second), (omega (arith, ints), other)))
    (λ later. (x.from, (omega (arith, ints), one), (later, first)))

pub Overlap-ends : (x y : Period) → Overlap x y → (x.from <ℤ y.to) × (y.from <ℤ x.to)
Overlap-ends x y o =
    let t : ℤ = o.0 in
    let a : x.from ≤ℤ t = o.1.0 in
    let b : t <ℤ x.to = o.1.1 in
    let c : y.from ≤ℤ t = o.2.0 in
    let d : t <ℤ y.to = o.2.1 in
    (omega (arith, ints), omega (arith, ints))

-- the last instant of x is before the first of y
pub Precedes-end : (x y : Period) → Precedes x y → x.to ≤ℤ y.from
Precedes-end x y p =
    let one : x.from <ℤ x.to = x.ordered in
    let other : y.from <ℤ y.to = y.ordered in
    let last : (x.to -ℤ pos 1) <ℤ y.from =
    p (x.to -ℤ pos 1) y.from (omega (arith, ints), omega (arith, ints)) (omega (arith, ints), other) in
    omega (arith, ints)

-- no instant is between two periods that touch
pub PrecedesAtOnce-from_ends : (x y : Period) → x.to ≡ y.from → PrecedesAtOnce x y
PrecedesAtOnce-from_ends x y e =
    let one : x.from <ℤ x.to = x.ordered in
    let other : y.from <ℤ y.to = y.ordered in (
      λ s t h k. let a : s <ℤ x.to = h.1 in let b : y.from ≤ℤ t = k.0 in omega (arith, ints),
      λ t after before.
          let a : (x.to -ℤ pos 1) <ℤ t = after (x.to -ℤ pos 1) (omega (arith, ints), omega (arith, ints)) in
          let b : t <ℤ y.from = before y.from (omega (arith, ints), other) in
          absurd (omega (arith, ints)),
    )

-- if they don't touch, the end of the first is an instant between them
pub PrecedesAtOnce-ends : (x y : Period) → PrecedesAtOnce x y → x.to ≡ y.from
PrecedesAtOnce-ends x y p =
    let le : x.to ≤ℤ y.from = Precedes-end x y p.0 in
    by_lt_z x.to y.from
    (λ lt. absurd (p.1 x.to (λ s h. h.1) (λ u h. let b : y.from ≤ℤ u = h.0 in omega (arith, ints))))
    (λ ge. omega (arith, ints))

period_of : (a b : ℤ) → a <ℤ b → Period
period_of a b h = record { from = a; to = b; ordered = h }

order_prop : (a b : ℤ) → IsProp (a <ℤ b)
order_prop a b = hlevel props

-- a period is determined by its two ends
pub Period-same : (p q : Period) → p.from ≡ q.from → p.to ≡ q.to → p ≡ q
unfolding period_of
Period-same p q from to =
    let A : ℤ → Type 0 = λ z. (h : z <ℤ q.to) → p ≡ period_of z q.to h in
    let B : ℤ → Type 0 = λ z. (h : p.from <ℤ z) → p ≡ period_of p.from z h in
    let b : B p.to = λ h. ap (λ k. period_of p.from p.to k) (order_prop p.from p.to p.ordered h) in
    let a : A p.from = λ h. subst B to b h in
    subst A from a q.ordered

-- `between_if` returns the period with these ends
between_if-some : (a b : ℤ) (test : Bool) (e : int_lt a b ≡ test) (p : Period) → p.from ≡ a → p.to ≡ b
    → between_if a b test e ≡ Some p
between_if-some a b true e p from to = ap Some (Period-same _ p (sym from) (sym to))
between_if-some a b false e p from to =
    let ordered : p.from <ℤ p.to = p.ordered in
    absurd (grind (arith, ints))

pub between-some : (a b : ℤ) (p : Period) → p.from ≡ a → p.to ≡ b → between a b ≡ Some p
between-some a b p from to = between_if-some a b (int_lt a b) refl p from to

between_if-holds : (a b : ℤ) (test : Bool) (e : int_lt a b ≡ test) (t : ℤ)
    → HoldsIn (between_if a b test e) t ↔ ((a ≤ℤ t) × (t <ℤ b))
between_if-holds a b true e t = (λ h. h, λ h. h)
between_if-holds a b false e t = (λ h. absurd h, λ h. grind (arith, ints))

-- the instants of `between`
between-holds : (a b t : ℤ) → HoldsIn (between a b) t ↔ ((a ≤ℤ t) × (t <ℤ b))
between-holds a b t = between_if-holds a b (int_lt a b) refl t

-- the common instants
pub meet-holds : (x y : Period) (t : ℤ) → HoldsIn (meet x y) t ↔ (Holds x t × Holds y t)
meet-holds x y t =
    let it = between-holds (int_max x.from y.from) (int_min x.to y.to) t in (
      λ h. let both =
          it.0 h in let one : int_max x.from y.from ≤ℤ t = both.0 in let other : t <ℤ int_min x.to y.to = both.1 in (
            (omega (arith, ints, clamps), omega (arith, ints, clamps)),
            (omega (arith, ints, clamps), omega (arith, ints, clamps)),
          ),
      λ h. let a : x.from ≤ℤ t =
          h.0.0 in let b : t <ℤ x.to = h.0.1 in let c : y.from ≤ℤ t = h.1.0 in let d : t <ℤ y.to = h.1.1 in
          it.1 (omega (arith, ints, clamps), omega (arith, ints, clamps)),
    )

-- the instants before the other's start
pub before-holds : (x y : Period) (t : ℤ) → HoldsIn (before x y) t ↔ (Holds x t × (t <ℤ y.from))
before-holds x y t =
    let it = between-holds x.from (int_min x.to y.from) t in (
      λ h. let both = it.0 h in let one : x.from ≤ℤ t = both.0 in let other : t <ℤ int_min x.to y.from = both.1 in
          ((omega (arith, ints, clamps), omega (arith, ints, clamps)), omega (arith, ints, clamps)),
      λ h. let a : x.from ≤ℤ t = h.0.0 in let b : t <ℤ x.to = h.0.1 in let c : t <ℤ y.from = h.1 in
          it.1 (omega (arith, ints, clamps), omega (arith, ints, clamps)),
    )

-- the instants from the other's end on
pub after-holds : (x y : Period) (t : ℤ) → HoldsIn (after x y) t ↔ (Holds x t × (y.to ≤ℤ t))
after-holds x y t =
    let it = between-holds (int_max x.from y.to) x.to t in (
      λ h. let both = it.0 h in let one : int_max x.from y.to ≤ℤ t = both.0 in let other : t <ℤ x.to = both.1 in
          ((omega (arith, ints, clamps), omega (arith, ints, clamps)), omega (arith, ints, clamps)),
      λ h. let a : x.from ≤ℤ t = h.0.0 in let b : t <ℤ x.to = h.0.1 in let c : y.to ≤ℤ t = h.1 in
          it.1 (omega (arith, ints, clamps), omega (arith, ints, clamps)),
    )

is_lt-test : (t u : Bool) → is_lt (cond t Less (cond u Greater Equal)) ≡ t
is_lt-test true u = refl
is_lt-test false true = refl
is_lt-test false false = refl

-- the later and the earlier of two points
pub ord_max-int_cmp : (a b : ℤ) → ord_max int_cmp a b ≡ int_max a b
ord_max-int_cmp a b = ap (λ t. cond t a b) (is_lt-test (int_lt b a) (int_lt a b))

pub ord_min-int_cmp : (a b : ℤ) → ord_min int_cmp a b ≡ int_min a b
ord_min-int_cmp a b = ap (λ t. cond t b a) (is_lt-test (int_lt b a) (int_lt a b))

pub between-same : {a b c d : ℤ} → a ≡ c → b ≡ d → between a b ≡ between c d
between-same e f = rw (e, f) refl
