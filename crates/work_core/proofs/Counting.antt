-- Counting in lists.
use Rattle.std.proofs.Common.{◌≡◌, ℕ, ◌+◌, ◌<◌, List, [], ◌∷◌, ◌++◌, arith}
use Rattle.std.proofs.lemmas.Bool.Decides.{nat_tests}
use Rattle.std.proofs.lemmas.List.Sums.{sum_by-cons, sum_by-append}
use Rattle.std.specs.Prelude.{◌==◌, if◌then◌else◌}
use Rattle.work_core.specs.Counting.{times, times_below}

pub times-cons : (x y : ℕ) (ys : List ℕ) → times x (y ∷ ys) ≡ times x (y ∷ []) + times x ys
times-cons x y ys = let h = sum_by-cons (λ (z : ℕ). if z == x then 1 else 0) y ys in omega (arith, h)

pub times-append : (x : ℕ) (xs ys : List ℕ) → times x (xs ++ ys) ≡ times x xs + times x ys
times-append x xs ys = sum_by-append (λ (z : ℕ). if z == x then 1 else 0) xs ys

pub times_below-next : (x n : ℕ) → times_below x (n + 1) ≡ times_below x n + times x (n ∷ [])
times_below-next x n = grind (arith, nat_tests)

pub times_below-inside : (x n : ℕ) → x < n → times_below x n ≡ 1
times_below-inside x n h = grind (arith, nat_tests)

pub times-last : (x : ℕ) (xs : List ℕ) → 0 < times x (xs ++ x ∷ [])
times-last x xs =
    let both = times-append x xs (x ∷ []) in
    let one : times x (x ∷ []) ≡ 1 = grind (arith, nat_tests) in
    omega (arith, both, one)

pub times-other : (x n : ℕ) → x < n → times x (n ∷ []) ≡ 0
times-other x n h = grind (arith, nat_tests)
