-- Sums over the views of a table.
use Rattle.std.proofs.Common.{◌≡◌, ℕ, zero, suc, ◌+◌, ◌≤◌, List, [], ◌∷◌, sym, ap, arith, set}
use Rattle.std.proofs.lemmas.List.Sums.{sum_by-cons}
use Rattle.std.specs.Prelude.{sum_by}
use mathlib.Core.Option.{some, some-injective, some-ne-none}
use lib.ListN.{get_elem?}

module _ {A : Type 0} (f : A → ℕ) where
  -- the sum after one view changed
  pub sum-set : (xs : List A) (i : ℕ) (v w : A) → get_elem? xs i ≡ some v
      → sum_by f (set xs i w) + f v ≡ sum_by f xs + f w
  sum-set [] i v w at = absurd (some-ne-none v (sym at))
  sum-set (x ∷ xs) zero v w at =
      let e = ap f (some-injective x v at) in
      omega (arith, sum_by-cons f x xs, sum_by-cons f w xs)
  sum-set (x ∷ xs) (suc i) v w at =
      let h = sum-set xs i v w at in
      omega (arith, h, sum_by-cons f x xs, sum_by-cons f x (set xs i w))

  -- one view's number is at most the sum
  pub one-le-sum : (xs : List A) (i : ℕ) (v : A) → get_elem? xs i ≡ some v → f v ≤ sum_by f xs
  one-le-sum [] i v at = absurd (some-ne-none v (sym at))
  one-le-sum (x ∷ xs) zero v at = let e = ap f (some-injective x v at) in omega (arith, sum_by-cons f x xs)
  one-le-sum (x ∷ xs) (suc i) v at = let h = one-le-sum xs i v at in omega (arith, h, sum_by-cons f x xs)
