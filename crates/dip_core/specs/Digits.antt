-- Binary digits.
use Rattle.std.specs.Prelude.{ℕ, ◌<◌, ◌≤◌, ◌^◌}

-- `digits` is the least number of binary digits that `n` needs: 3 for 5, 0 for 0.
pub record HasBinaryDigits (n digits : ℕ) : Type 0 where
  pub enough : n < 2 ^ digits
  pub least : (fewer : ℕ) → n < 2 ^ fewer → digits ≤ fewer
