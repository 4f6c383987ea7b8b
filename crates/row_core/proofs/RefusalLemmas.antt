-- The first refusal of the tests of many elements.
use Rattle.std.proofs.Common.{◌≡◌, ℕ, zero, suc, ◌+◌, ◌<◌, List, [], ◌∷◌, ◌++◌, length, Bool, true, false, Option, Some, None, refl, ap, sym, ◌∙◌, drop, get_or, arith}
use Rattle.std.specs.Prelude.{flat_map, is_some}
use Rattle.std.proofs.lemmas.List.{drop_more}
use Rattle.std.proofs.lemmas.List.Concat.{flat_map-cons}
use Rattle.row_core.specs.Refusals.{first_of}

-- after tests that don't apply, later tests decide
pub first_of-none_then : {E : Type 0} (a b : List (Bool × E)) → first_of a ≡ None → first_of (a ++ b) ≡ first_of b
first_of-none_then [] b h = refl
first_of-none_then ((true, e) ∷ a) b h = absurd (cc)
first_of-none_then ((false, e) ∷ a) b h = first_of-none_then a b h

-- after a test that applies, later tests don't matter
pub first_of-some_then : {E : Type 0} (a b : List (Bool × E)) (e : E) → first_of a ≡ Some e → first_of (a ++ b) ≡ Some e
first_of-some_then [] b e h = absurd (cc)
first_of-some_then ((true, x) ∷ a) b e h = h
first_of-some_then ((false, x) ∷ a) b e h = first_of-some_then a b e h

first_of-some_or : {E : Type 0} (a b : List (Bool × E)) (o : Option E) → o ≡ first_of a → is_some o ≡ true
    → o ≡ first_of (a ++ b)
first_of-some_or a b None e h = absurd (cc)
first_of-some_or a b (Some x) e h = sym (first_of-some_then a b x (sym e))

first_of-none_or : {E : Type 0} (a b : List (Bool × E)) (o : Option E) → o ≡ first_of a → is_some o ≡ false
    → first_of (a ++ b) ≡ first_of b
first_of-none_or a b None e h = first_of-none_then a b (sym e)
first_of-none_or a b (Some x) e h = absurd (cc)

left_more : {X E : Type 0} (f : X → List (Bool × E)) (xs : List X) (i : ℕ) (x : X) → i < length xs → x ≡ get_or xs i x
    → flat_map f (drop i xs) ≡ f x ++ flat_map f (drop (i + 1) xs)
left_more f xs i x h e =
    ap (flat_map f) (drop_more xs i x h) ∙ flat_map-cons f (get_or xs i x) (drop (i + 1) xs)
    ∙ ap (λ y. f y ++ flat_map f (drop (i + 1) xs)) (sym e)

-- a refused element decides
pub refused_here : {X E : Type 0} (f : X → List (Bool × E)) (xs : List X) (i : ℕ) (x : X) (o all : Option E)
    → i < length xs → x ≡ get_or xs i x → o ≡ first_of (f x) → is_some o ≡ true
    → first_of (flat_map f (drop i xs)) ≡ all → o ≡ all
refused_here f xs i x o all h e r s k =
    first_of-some_or (f x) (flat_map f (drop (i + 1) xs)) o r s ∙ ap first_of (sym (left_more f xs i x h e)) ∙ k

-- an accepted element doesn't
pub allowed_here : {X E : Type 0} (f : X → List (Bool × E)) (xs : List X) (i : ℕ) (x : X) (o all : Option E)
    → i < length xs → x ≡ get_or xs i x → o ≡ first_of (f x) → is_some o ≡ false
    → first_of (flat_map f (drop i xs)) ≡ all → first_of (flat_map f (drop (i + 1) xs)) ≡ all
allowed_here f xs i x o all h e r s k =
    sym (first_of-none_or (f x) (flat_map f (drop (i + 1) xs)) o r s) ∙ ap first_of (sym (left_more f xs i x h e)) ∙ k

-- if no test of two lists applies, none applies in either
first_of-none_parts : {E : Type 0} (a b : List (Bool × E)) → first_of (a ++ b) ≡ None
    → (first_of a ≡ None) × (first_of b ≡ None)
first_of-none_parts [] b h = (refl, h)
first_of-none_parts ((true, e) ∷ a) b h = absurd (cc)
first_of-none_parts ((false, e) ∷ a) b h = first_of-none_parts a b h

-- if no element is refused, the element at an index isn't
pub each_allowed : {X E : Type 0} (f : X → List (Bool × E)) (xs : List X) (i : ℕ) (d : X)
    → first_of (flat_map f xs) ≡ None → i < length xs → first_of (f (get_or xs i d)) ≡ None
each_allowed f [] i d h lt = absurd (omega arith)
each_allowed f (x ∷ xs) zero d h lt =
    (first_of-none_parts (f x) (flat_map f xs) (sym (ap first_of (flat_map-cons f x xs)) ∙ h)).0
each_allowed f (x ∷ xs) (suc i) d h lt =
    each_allowed f xs i d (first_of-none_parts (f x) (flat_map f xs) (sym (ap first_of (flat_map-cons f x xs)) ∙ h)).1
    (omega arith)
