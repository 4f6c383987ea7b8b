-- New elements added to old ones that pass no test in pairs: each new one is tested with the other new ones and the old
-- ones.
use Rattle.std.proofs.Common.{◌≡◌, List, [], ◌∷◌, ◌++◌, Bool, true, false, ◌||◌, cond, refl, sym, ap, ◌∙◌}
use Rattle.std.proofs.lemmas.Bool.{or_from, or_parts}
use Rattle.std.specs.Prelude.{filter}
use Rattle.std.specs.List.{list_any}
use Rattle.std.proofs.lemmas.List.Folds.{list_any-append}
use Rattle.version_core.specs.Collisions.{have_pair}

or_nothing : (a b : Bool) → b ≡ false → a ≡ (a || b)
or_nothing true b none = refl
or_nothing false b none = sym none

or_swap : (a b c : Bool) → (a || (b || c)) ≡ (b || (a || c))
or_swap true true c = refl
or_swap true false c = refl
or_swap false b c = refl

module _ {X : Type 0} (test : X → X → Bool) where
  -- the test holds for an old and a new element
  abbrev pub have_meeting : List X → List X → Bool
  have_meeting old new = list_any (λ y. list_any (λ x. test x y) old) new

  meeting-none : (new : List X) → have_meeting [] new ≡ false
  meeting-none [] = refl
  meeting-none (y ∷ ys) = meeting-none ys

  meeting-cons : (x : X) (old new : List X)
      → have_meeting (x ∷ old) new ≡ (list_any (test x) new || have_meeting old new)
  meeting-cons x old [] = refl
  meeting-cons x old (y ∷ ys) =
      ap (λ t. (test x y || list_any (λ x. test x y) old) || t) (meeting-cons x old ys)
      ∙ regroup (test x y) (list_any (λ x. test x y) old) (list_any (test x) ys) (have_meeting old ys)
    where
      regroup : (a b c d : Bool) → ((a || b) || (c || d)) ≡ ((a || c) || (b || d))
      regroup true b c d = refl
      regroup false true true d = refl
      regroup false true false d = refl
      regroup false false c d = refl

  -- pairs of old elements needn't be tested
  pub pairs-added : (old new : List X) → have_pair test old ≡ false
      → (have_pair test new || have_meeting old new) ≡ have_pair test (old ++ new)
  pairs-added [] new none = sym (or_nothing (have_pair test new) (have_meeting [] new) (meeting-none new))
  pairs-added (x ∷ xs) new none =
      let both = or_parts (list_any (test x) xs) (have_pair test xs) none in
      ap (λ t. have_pair test new || t) (meeting-cons x xs new)
      ∙ or_swap (have_pair test new) (list_any (test x) new) (have_meeting xs new)
      ∙ ap (λ t. list_any (test x) new || t) (pairs-added xs new both.1)
      ∙ ap (λ t. (t || list_any (test x) new) || have_pair test (xs ++ new)) (sym both.0)
      ∙ ap (λ t. t || have_pair test (xs ++ new)) (sym (list_any-append (test x) xs new))

  any-filtered : (x : X) (p : X → Bool) (xs : List X) → list_any (test x) xs ≡ false
      → list_any (test x) (filter p xs) ≡ false
  any-filtered x p [] none = refl
  any-filtered x p (y ∷ ys) none =
      let both = or_parts (test x y) (list_any (test x) ys) none in
      elim (p y) as (λ b. list_any (test x) (cond b (y ∷ filter p ys) (filter p ys)) ≡ false) [
        | true ↦ or_from (test x y) (list_any (test x) (filter p ys)) both.0 (any-filtered x p ys both.1)
        | false ↦ any-filtered x p ys both.1
      ]

  -- if no pair passes, no pair of a part of the list does
  pub pairs-filtered : (p : X → Bool) (xs : List X) → have_pair test xs ≡ false → have_pair test (filter p xs) ≡ false
  pairs-filtered p [] none = refl
  pairs-filtered p (x ∷ xs) none =
      let both = or_parts (list_any (test x) xs) (have_pair test xs) none in
      elim (p x) as (λ b. have_pair test (cond b (x ∷ filter p xs) (filter p xs)) ≡ false) [
        | true ↦ or_from (list_any (test x) (filter p xs)) (have_pair test (filter p xs)) (any-filtered x p xs both.0)
            (pairs-filtered p xs both.1)
        | false ↦ pairs-filtered p xs both.1
      ]
