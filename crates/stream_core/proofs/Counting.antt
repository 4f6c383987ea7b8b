-- How much the count of failed calls grows.
use Rattle.std.proofs.Common.{ℕ, ◌+◌, ◌≤◌, Bool, true, false, arith}
use Rattle.stream_core.specs.FailureCount.{count_after}

-- by one call, at most by one
pub count_after-most : (count : ℕ) (failed : Bool) → count_after count failed ≤ count + 1
count_after-most count true = omega arith
count_after-most count false = omega arith
