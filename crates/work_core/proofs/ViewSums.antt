-- Sums over the views of a table.
use Rattle.std.proofs.Common.{◌≡◌, ℕ, zero, suc, ◌+◌, ◌≤◌, List, [], ◌∷◌, sym, ap, refl, arith, set}
use Rattle.std.proofs.lemmas.List.Sums.{sum_by-cons}
use Rattle.std.specs.Prelude.{sum_by}
use mathlib.Core.Option.{some, some-injective, some-ne-none}
use lib.ListN.{get_elem?}
use Rattle.work_core.specs.declared.claim_view.ClaimView.{ClaimView}

-- the sum after one view changed
pub sum-set : (f : ClaimView → ℕ) (views : List ClaimView) (id : ℕ) (v w : ClaimView) → get_elem? views id ≡ some v
    → sum_by f (set views id w) + f v ≡ sum_by f views + f w
sum-set f [] id v w at = absurd (some-ne-none v (sym at))
sum-set f (x ∷ xs) zero v w at =
    let e = ap f (some-injective x v at) in
    omega (arith, sum_by-cons f x xs, sum_by-cons f w xs)
sum-set f (x ∷ xs) (suc id) v w at =
    let h = sum-set f xs id v w at in
    omega (arith, h, sum_by-cons f x xs, sum_by-cons f x (set xs id w))

-- one view's number is at most the sum
pub one-le-sum : (f : ClaimView → ℕ) (views : List ClaimView) (id : ℕ) (v : ClaimView) → get_elem? views id ≡ some v
    → f v ≤ sum_by f views
one-le-sum f [] id v at = absurd (some-ne-none v (sym at))
one-le-sum f (x ∷ xs) zero v at = let e = ap f (some-injective x v at) in omega (arith, sum_by-cons f x xs)
one-le-sum f (x ∷ xs) (suc id) v at = let h = one-le-sum f xs id v at in omega (arith, h, sum_by-cons f x xs)

-- f is 0 whenever g is
abbrev Follows : (ClaimView → ℕ) → (ClaimView → ℕ) → List ClaimView → Type 0
Follows f g views = (id : ℕ) (u : ClaimView) → get_elem? views id ≡ some u → g u ≡ 0 → f u ≡ 0

sum-none : (f g : ClaimView → ℕ) (views : List ClaimView) → Follows f g views → sum_by g views ≡ 0 → sum_by f views ≡ 0
sum-none f g [] follows none = refl
sum-none f g (x ∷ xs) follows none =
    let all = sum_by-cons g x xs in
    let here = follows 0 x refl (omega (arith, all, none)) in
    let rest = sum-none f g xs (λ id u at. follows (suc id) u at) (omega (arith, all, none)) in
    omega (arith, here, rest, sum_by-cons f x xs)

-- if f is 0 whenever g is, a view that has the whole sum of g has the whole sum of f
pub sum-whole : (f g : ClaimView → ℕ) (views : List ClaimView) (id : ℕ) (v : ClaimView) → Follows f g views
    → get_elem? views id ≡ some v → sum_by g views ≡ g v → sum_by f views ≡ f v
sum-whole f g [] id v follows at whole = absurd (some-ne-none v (sym at))
sum-whole f g (x ∷ xs) zero v follows at whole =
    let e = some-injective x v at in
    let a = ap f e in
    let b = ap g e in
    let none = sum-none f g xs (λ j u at'. follows (suc j) u at') (omega (arith, b, whole, sum_by-cons g x xs)) in
    omega (arith, a, none, sum_by-cons f x xs)
sum-whole f g (x ∷ xs) (suc id) v follows at whole =
    let all = sum_by-cons g x xs in
    let low = one-le-sum g xs id v at in
    let here = follows 0 x refl (omega (arith, all, low, whole)) in
    let rest = sum-whole f g xs id v (λ j u at'. follows (suc j) u at') at (omega (arith, all, low, whole)) in
    omega (arith, here, rest, sum_by-cons f x xs)
