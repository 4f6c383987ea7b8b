-- The elements of lists that are made from lists, and of two lists together.
use Rattle.std.proofs.Common.{◌≡◌, ◌⊎◌, ℕ, zero, suc, ◌+◌, ◌<◌, List, [], ◌∷◌, ◌++◌, length, take, flat_map, AllPairs, Bool, true, false, Some, refl, sym, subst, ◌∙◌, inl, inr, arith}
use Rattle.std.specs.Prelude.{Contains, slice_get}
use Rattle.std.specs.Bool.{Decides}
use Rattle.std.proofs.Math.Logic.{∥∥₁_elim, ∥∥₁_map}
use Rattle.std.proofs.Props.{props}
use Rattle.std.proofs.lemmas.List.Elements.{Contains-append_left, Contains-append_right, Contains-append_cases}
use Rattle.list_core.proofs.RisingLemmas.{Contains-head, Contains-cons, Contains-cons_cases, Contains-none}
use Rattle.list_core.proofs.WantedLemmas.{AllPairs-append}

-- falsity is a proposition
pub nothing_prop : IsProp ⊥
nothing_prop = hlevel props

-- an element that isn't the first is in the rest
Contains-rest : {X : Type 0} (eq : X → X → Bool) → ((a b : X) → Decides (eq a b) (a ≡ b))
    → (y : X) (ys : List X) (x : X) → eq y x ≡ false → Contains (y ∷ ys) x → Contains ys x
Contains-rest eq same y ys x other c = elim (Contains-cons_cases y ys x c) [
  | inl is ↦ let passes : eq y x ≡ true = (same y x).1 is in absurd (let bad : true ≡ false = sym passes ∙ other in cc)
  | inr k ↦ k
]

-- the truncated fact that a list contains an element gives the fact, because `==` finds it
pub Contains-opened : {X : Type 0} (eq : X → X → Bool) → ((a b : X) → Decides (eq a b) (a ≡ b)) → (xs : List X) (x : X)
    → ∥ Contains xs x ∥₁ → Contains xs x
Contains-opened eq same [] x bare = absurd (∥∥₁_elim bare nothing_prop (λ c. Contains-none x c))
Contains-opened {X} eq same (y ∷ ys) x bare =
    by_test (eq y x) refl
    (λ other. Contains-opened eq same ys x (∥∥₁_map bare (λ c. Contains-rest eq same y ys x other c)))
  where
    by_test : (test : Bool) → eq y x ≡ test → (eq y x ≡ false → Contains ys x) → Contains (y ∷ ys) x
    by_test true e later = subst (Contains (y ∷ ys)) ((same y x).0 e) (Contains-head y ys)
    by_test false e later = Contains-cons y ys x (later e)

-- an element of one of the lists is in all of them together
pub Contains-flat_map : {X A : Type 0} (f : X → List A) (xs : List X) (i : ℕ) (x : X) (a : A)
    → slice_get xs i ≡ Some x → Contains (f x) a → Contains (flat_map f xs) a
Contains-flat_map f [] i x a at h = cc
Contains-flat_map f (y ∷ xs) zero x a at h =
    let e : y ≡ x = cc in
    Contains-append_left (f y) (flat_map f xs) a (subst (λ z. Contains (f z) a) (sym e) h)
Contains-flat_map f (y ∷ xs) (suc i) x a at h =
    Contains-append_right (f y) (flat_map f xs) a (Contains-flat_map f xs i x a at h)

-- an element of all of them together is in one of them
pub Contains-flat_map_source : {X A : Type 0} (f : X → List A) (xs : List X) (a : A) → Contains (flat_map f xs) a
    → (i : ℕ) × (x : X) × (slice_get xs i ≡ Some x) × Contains (f x) a
Contains-flat_map_source f [] a h = absurd (Contains-none a h)
Contains-flat_map_source f (y ∷ xs) a h = elim (Contains-append_cases (f y) (flat_map f xs) a h) [
  | inl k ↦ (0, y, refl, k)
  | inr k ↦ let r = Contains-flat_map_source f xs a k in (suc r.0, r.1, r.2, r.3)
]

-- if lists are in order, and each list before the later ones, they are in order together
pub AllPairs-flat_map : {X A : Type 0} (R : A → A → Type 0) (f : X → List A) (xs : List X)
    → ((i : ℕ) (x : X) → slice_get xs i ≡ Some x → AllPairs R (f x))
    → ((i j : ℕ) (x y : X) (a b : A) → i < j → slice_get xs i ≡ Some x → slice_get xs j ≡ Some y
    → Contains (f x) a → Contains (f y) b → R a b)
    → AllPairs R (flat_map f xs)
AllPairs-flat_map R f [] each across = λ i j d less h. absurd (omega arith)
AllPairs-flat_map R f (x ∷ xs) each across =
    AllPairs-append R (f x) (flat_map f xs) (each 0 x refl)
    (AllPairs-flat_map R f xs (λ i y at. each (suc i) y at)
    (λ i j y z a b less at there h k. across (suc i) (suc j) y z a b (omega arith) at there h k))
    (λ a b h k.
    let r = Contains-flat_map_source f xs b k in
    across 0 (suc r.0) x r.1 a b (omega arith) refl r.2 h r.3)

-- an element of two lists together
pub slice_get-append_cases : {X : Type 0} (xs ys : List X) (i : ℕ) (x : X) → slice_get (xs ++ ys) i ≡ Some x
    → (slice_get xs i ≡ Some x) ⊎ ((k : ℕ) × (i ≡ length xs + k) × (slice_get ys k ≡ Some x))
slice_get-append_cases [] ys i x h = inr (i, omega arith, h)
slice_get-append_cases (z ∷ xs) ys zero x h = inl h
slice_get-append_cases (z ∷ xs) ys (suc i) x h = elim (slice_get-append_cases xs ys i x h) [
  | inl k ↦ inl k
  | inr k ↦ inr (k.0, (let e = k.1 in omega (arith, e)), k.2)
]

-- an element of a prefix is an element of the list
pub within_take : {X : Type 0} (xs : List X) (n i : ℕ) (x : X) → slice_get (take n xs) i ≡ Some x
    → (i < n) × (slice_get xs i ≡ Some x)
within_take [] zero i x h = cc
within_take [] (suc n) i x h = cc
within_take (y ∷ xs) zero i x h = cc
within_take (y ∷ xs) (suc n) zero x h = (omega arith, h)
within_take (y ∷ xs) (suc n) (suc i) x h = let r = within_take xs n i x h in (omega (arith, r.0), r.1)
