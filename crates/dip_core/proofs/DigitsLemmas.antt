-- Powers of two, and binary digits.
use Rattle.std.proofs.Common.{◌≡◌, ℕ, zero, suc, ◌+◌, ◌-◌, ◌*◌, ◌/◌, ◌^◌, ◌<◌, ◌≤◌, arith, inl, inr, add-one}
use Rattle.std.proofs.Math.Nat.{pow-suc, pow-le-pow_right}
use Rattle.std.proofs.lemmas.Bool.{cases_lt}
use Rattle.std.proofs.lemmas.Nat.{leading_length}
use Rattle.dip_core.specs.Digits.{HasBinaryDigits}

-- a greater power has a greater exponent
pub exponent-less : (i j : ℕ) → 2 ^ i < 2 ^ j → i < j
exponent-less i j less = elim (cases_lt i j) [
  | inl h ↦ h
  | inr h ↦
      let positive : 0 < 2 = omega arith in
      let other : 2 ^ j ≤ 2 ^ i = pow-le-pow_right positive h in
      absurd (omega arith)
]

-- the next power is twice as large
pub power-more : (i : ℕ) → 2 ^ (i + 1) ≡ 2 * 2 ^ i
power-more i =
    let next : 2 ^ suc i ≡ 2 ^ i * 2 = pow-suc 2 i in
    rw add-one (omega (arith, next))

-- the parent of an index within some levels of the heap is within one level less
pub half-power : (place levels : ℕ) → 0 < place → place + 1 ≤ 2 ^ levels
    → (less : ℕ) × (levels ≡ less + 1) × ((place - 1) / 2 + 1 ≤ 2 ^ less)
half-power place zero more within = absurd (omega arith)
half-power place (suc less) more within =
    let next : 2 ^ suc less ≡ 2 ^ less * 2 = pow-suc 2 less in
    (less, omega arith, omega arith)

-- a number below a power of two has binary digits, no more than the exponent
pub some_digits : (n most : ℕ) → n < 2 ^ most → (digits : ℕ) × HasBinaryDigits n digits
some_digits n most below =
    let (digits, rest, enough, high) = leading_length most n below in (
      digits,
      record {
        enough = enough;
        least = λ fewer less.
            let next : 2 ^ (fewer + 1) ≡ 2 * 2 ^ fewer = power-more fewer in
            let deep : digits < fewer + 1 = exponent-less digits (fewer + 1) (omega arith) in
            omega arith;
      },
    )
