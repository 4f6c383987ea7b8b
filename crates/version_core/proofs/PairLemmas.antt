-- Tests of pairs of elements, of neighbours and of all.
use Rattle.std.proofs.Common.{◌≡◌, ℕ, zero, suc, ◌-◌, ◌<◌, ◌≤◌, List, [], ◌∷◌, length, map, drop, get_or, Bool, true, false, ◌||◌, refl, sym, ap, ◌∙◌, arith}
use Rattle.std.proofs.lemmas.Bool.{or_from, or_parts}
use Rattle.std.specs.List.{list_any, AllByRecursion, IsDistinct}
use Rattle.std.specs.Prelude.{IsPermutation, IsSortedBy}
use Rattle.std.proofs.lemmas.List.Sorted.{sorted_far, IsPermutation-sym}
use Rattle.std.specs.Cmp.{IsStrictWeakOrder}
use Rattle.std.proofs.lemmas.Map.Keys.{IsDistinct-IsPermutation, IsDistinct-from_apart}
use Rattle.version_core.specs.Collisions.{have_pair}
use Rattle.version_core.specs.KeyOrder.{have_neighbours}

same_bool : (a b : Bool) → (a ≡ false → b ≡ false) → (b ≡ false → a ≡ false) → a ≡ b
same_bool true true f g = refl
same_bool true false f g = g refl
same_bool false b f g = sym (f refl)

module _ {X : Type 0} (test : X → X → Bool) where
  none-any : (x : X) (xs : List X) → list_any (test x) xs ≡ false → AllByRecursion (λ y. test x y ≡ false) xs
  none-any x [] h = tt
  none-any x (y ∷ ys) h = let both = or_parts (test x y) (list_any (test x) ys) h in (both.0, none-any x ys both.1)

  any-none : (x : X) (xs : List X) → AllByRecursion (λ y. test x y ≡ false) xs → list_any (test x) xs ≡ false
  any-none x [] h = refl
  any-none x (y ∷ ys) h = or_from (test x y) (list_any (test x) ys) h.0 (any-none x ys h.1)

  pub distinct-from_none : (xs : List X) → have_pair test xs ≡ false → IsDistinct test xs
  unfolding IsDistinct
  distinct-from_none [] h = tt
  distinct-from_none (x ∷ xs) h =
      let both = or_parts (list_any (test x) xs) (have_pair test xs) h in
      (none-any x xs both.0, distinct-from_none xs both.1)

  pub none-from_distinct : (xs : List X) → IsDistinct test xs → have_pair test xs ≡ false
  unfolding IsDistinct
  none-from_distinct [] h = refl
  none-from_distinct (x ∷ xs) h =
      or_from (list_any (test x) xs) (have_pair test xs) (any-none x xs h.0) (none-from_distinct xs h.1)

-- a symmetric test of pairs is the same for a permutation
pub have_pair-permutation : {X : Type 0} (test : X → X → Bool) → ((a b : X) → test a b ≡ test b a) → (xs ys : List X)
    → IsPermutation xs ys → have_pair test xs ≡ have_pair test ys
have_pair-permutation test flips xs ys moved = same_bool (have_pair test xs) (have_pair test ys)
    (λ none. none-from_distinct test ys
    (IsDistinct-IsPermutation test flips xs ys moved (distinct-from_none test xs none)))
    (λ none. none-from_distinct test xs
    (IsDistinct-IsPermutation test flips ys xs (IsPermutation-sym xs ys moved) (distinct-from_none test ys none)))

pub list_any-map : {X Y : Type 0} (test : Y → Bool) (f : X → Y) (xs : List X)
    → list_any test (map f xs) ≡ list_any (λ x. test (f x)) xs
list_any-map test f [] = refl
list_any-map test f (x ∷ xs) = ap (λ t. test (f x) || t) (list_any-map test f xs)

pub have_pair-map : {X Y : Type 0} (test : Y → Y → Bool) (f : X → Y) (xs : List X)
    → have_pair test (map f xs) ≡ have_pair (λ a b. test (f a) (f b)) xs
have_pair-map test f [] = refl
have_pair-map test f (x ∷ xs) =
    ap (λ t. t || have_pair test (map f xs)) (list_any-map (test (f x)) f xs)
    ∙ ap (λ t. list_any (λ y. test (f x) (f y)) xs || t) (have_pair-map test f xs)

-- neighbours of a sorted list, if a test that holds for two elements holds for the first and each one between them
module _ {X : Type 0} (test lt : X → X → Bool)
    (between : (x y z : X) → lt y x ≡ false → lt z y ≡ false → test x z ≡ true → test x y ≡ true) where
  apart : (x y z : X) → lt y x ≡ false → lt z y ≡ false → test x y ≡ false → (b : Bool) → test x z ≡ b → b ≡ false
  apart x y z low high none true e = sym (between x y z low high e) ∙ none
  apart x y z low high none false e = refl

  far : (x y : X) (zs : List X) → lt y x ≡ false → test x y ≡ false → AllByRecursion (λ z. lt z y ≡ false) zs
      → list_any (test x) zs ≡ false
  far x y [] low none above = refl
  far x y (z ∷ zs) low none above =
      or_from (test x z) (list_any (test x) zs) (apart x y z low above.0 none (test x z) refl)
      (far x y zs low none above.1)

  neighbours-pairs : (xs : List X) → IsDistinct (λ x y. lt y x) xs → have_neighbours test xs ≡ have_pair test xs
  unfolding IsDistinct
  neighbours-pairs [] up = refl
  neighbours-pairs (x ∷ []) up = refl
  neighbours-pairs (x ∷ y ∷ zs) up =
      ap (λ t. test x y || t) (neighbours-pairs (y ∷ zs) up.1)
      ∙ by_first (test x y) refl
    where
      by_first : (b : Bool) → test x y ≡ b
          → (b || have_pair test (y ∷ zs)) ≡ ((b || list_any (test x) zs) || have_pair test (y ∷ zs))
      by_first true e = refl
      by_first false e = ap (λ t. t || have_pair test (y ∷ zs)) (sym (far x y zs up.0.0 e up.1.0))

  pub neighbours-pairs_sorted : IsStrictWeakOrder lt → (xs : List X) → IsSortedBy lt xs
      → have_neighbours test xs ≡ have_pair test xs
  neighbours-pairs_sorted weak xs sorted =
      neighbours-pairs xs
      (IsDistinct-from_apart (λ x y. lt y x) xs
      (λ i j d below inside. sorted_far lt weak xs sorted i j d (omega arith) inside))

-- one pair of neighbours, and the rest of the list
pub neighbours-next : {X : Type 0} (test : X → X → Bool) (xs : List X) (i : ℕ) (a b : X) → 1 ≤ i → i < length xs
    → a ≡ get_or xs (i - 1) a → b ≡ get_or xs i b
    → have_neighbours test (drop (i - 1) xs) ≡ (test a b || have_neighbours test (drop i xs))
neighbours-next {X = X} test xs zero a b some within e f = absurd (omega arith)
neighbours-next {X = X} test xs (suc i) a b some within e f =
    let less : suc i - 1 ≡ i = omega arith in
    ap (λ n. have_neighbours test (drop n xs)) less ∙ here xs i within (e ∙ ap (λ n. get_or xs n a) less) f
  where
    here : (xs : List X) (i : ℕ) → suc i < length xs → a ≡ get_or xs i a → b ≡ get_or xs (suc i) b
        → have_neighbours test (drop i xs) ≡ (test a b || have_neighbours test (drop (suc i) xs))
    here [] i within e f = absurd (omega arith)
    here (x ∷ []) i within e f = absurd (omega arith)
    here (x ∷ y ∷ ys) zero within e f = rw (e, f) refl
    here (x ∷ y ∷ ys) (suc i) within e f = here (y ∷ ys) i (omega arith) e f

-- at the end no neighbours remain
pub neighbours-end : {X : Type 0} (test : X → X → Bool) (xs : List X) (i : ℕ) → 1 ≤ i → length xs ≤ i
    → have_neighbours test (drop (i - 1) xs) ≡ false
neighbours-end {X = X} test xs zero some past = absurd (omega arith)
neighbours-end {X = X} test xs (suc i) some past =
    let less : suc i - 1 ≡ i = omega arith in
    ap (λ n. have_neighbours test (drop n xs)) less ∙ here xs i past
  where
    here : (xs : List X) (i : ℕ) → length xs ≤ suc i → have_neighbours test (drop i xs) ≡ false
    here [] zero past = refl
    here [] (suc i) past = refl
    here (x ∷ []) zero past = refl
    here (x ∷ []) (suc i) past = here [] i (omega arith)
    here (x ∷ y ∷ ys) zero past = absurd (omega arith)
    here (x ∷ y ∷ ys) (suc i) past = here (y ∷ ys) i (omega arith)
