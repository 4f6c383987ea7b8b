-- How often a number occurs in a list.
use Rattle.std.specs.Prelude.{ℕ, ◌==◌, if◌then◌else◌, List, count_by, nat_lt}

-- how often the number occurs in the list
abbrev pub times : ℕ → List ℕ → ℕ
times x xs = count_by (λ y. y == x) xs

-- how often a number occurs among all numbers below n: once if it is one of them
abbrev pub times_below : ℕ → ℕ → ℕ
times_below x n = if nat_lt x n then 1 else 0
