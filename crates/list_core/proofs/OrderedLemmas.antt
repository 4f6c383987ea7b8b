-- Lists in a total order.
use Rattle.std.proofs.Common.{◌≡◌, ◌≢◌, ℕ, ◌+◌, ◌<◌, false, Bool, List, get_or, AllPairs, refl, sym, ap, arith}
use Rattle.std.specs.Prelude.{IsPermutation, IsSorted}
use Rattle.std.specs.Bool.{Decides}
use Rattle.std.specs.Cmp.{IsTotalOrder}
use Rattle.std.specs.Ordering.{is_lt, nat_cmp, ordering_reverse, ordering_then}
use Rattle.std.specs.declared.cmp.Ordering.{Ordering}
use Rattle.std.specs.declared.cmp.Ordering.TheVariants.{Less, Equal, Greater}
use Rattle.std.proofs.lemmas.Bool.Decides.{nat_tests, Decides-like, same_from_decides}
use Rattle.std.proofs.lemmas.List.Sorted.{sorted_far, ranks_by}
use Rattle.std.proofs.lemmas.Map.Made.{AllPairs-from_IsDistinct, IsDistinct-from_AllPairs}
use Rattle.std.proofs.lemmas.Map.Keys.{IsDistinct-IsPermutation}
use Rattle.std.specs.List.Sorted.{IsSortedBy}
use Rattle.list_core.specs.Order.{RiseBy}

-- a lexicographic comparison gives `Equal` only if both comparisons do
pub both_tie : (r s : Ordering) → ordering_then r s ≡ Equal → (r ≡ Equal) × (s ≡ Equal)
both_tie Less s e = cc
both_tie Equal s e = (refl, e)
both_tie Greater s e = cc

-- no two elements come before each other
pub before-asym : {X : Type 0} (cmp : X → X → Ordering) → IsTotalOrder cmp → (a b : X) → cmp a b ≡ Less
    → cmp b a ≡ Less → ⊥
before-asym cmp total a b one other =
    let e : cmp a b ≡ ordering_reverse (cmp b a) = total.antisymm a b in
    let turned : ordering_reverse (cmp b a) ≡ Greater = ap ordering_reverse other in
    cc

-- a test that decides `≡` is symmetric
Decides-flips : {X : Type 0} (eq : X → X → Bool) → ((a b : X) → Decides (eq a b) (a ≡ b))
    → (a b : X) → eq a b ≡ eq b a
Decides-flips eq same a b =
    same_from_decides (eq a b) (eq b a) (same a b) (Decides-like (eq b a) (λ e. sym e) (λ e. sym e) (same b a))

module _ {X : Type 0} (cmp : X → X → Ordering) (total : IsTotalOrder cmp) (one : (a b : X) → cmp a b ≡ Equal → a ≡ b)
  where
    -- an element that differs from another and doesn't come after it comes before it
    comes_after : (x y : X) (r s : Ordering) → r ≡ cmp x y → s ≡ cmp y x → r ≡ ordering_reverse s → is_lt s ≡ false
        → x ≢ y → r ≡ Less
    comes_after x y r Less er es turned h ne = cc
    comes_after x y r Equal er es turned h ne = absurd (ne (sym (one y x (sym es))))
    comes_after x y r Greater er es turned h ne = turned

    -- distinct elements are strictly ordered once they are sorted
    pub sorted_in_order : (eq : X → X → Bool) → ((a b : X) → Decides (eq a b) (a ≡ b)) → (xs ys : List X)
        → AllPairs (λ x y. x ≢ y) xs → IsPermutation xs ys → IsSorted cmp ys → AllPairs (λ a b. cmp a b ≡ Less) ys
    sorted_in_order eq same xs ys differ moved sorted =
        let others : AllPairs (λ x y. x ≢ y) ys =
        AllPairs-from_IsDistinct same ys
        (IsDistinct-IsPermutation eq (Decides-flips eq same) xs ys moved (IsDistinct-from_AllPairs same xs differ)) in
        λ i j d below inside.
        comes_after (get_or ys i d) (get_or ys j d) _ _ refl refl (total.antisymm (get_or ys i d) (get_or ys j d))
        (sorted_far (λ (x : X) (y : X). is_lt (cmp x y)) (ranks_by total (λ (x : X). x)) ys sorted i j d (omega arith)
        inside)
        (others i j d below inside)

-- a greater number doesn't compare as less
not_lower : (m n : ℕ) → n < m → is_lt (nat_cmp m n) ≡ false
not_lower m n less = grind (arith, nat_tests)

-- elements whose numbers rise are sorted by these numbers
pub sorted-from_rise : {X : Type 0} (number : X → ℕ) (xs : List X) → RiseBy number xs
    → IsSortedBy (λ x y. is_lt (nat_cmp (number x) (number y))) xs
sorted-from_rise number xs rise k d low h =
    not_lower (number (get_or xs (k + 1) d)) (number (get_or xs k d)) (rise k d h)
