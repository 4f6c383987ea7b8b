-- Values of a job of sums.
use Rattle.std.specs.Prelude.{◌≡◌, ℕ}
use Rattle.std.proofs.Math.Nat.{ℕ_set}

-- a proof that two numbers are equal is unique
pub equal_prop : (a b : ℕ) → IsProp (a ≡ b)
equal_prop a b = ℕ_set a b
