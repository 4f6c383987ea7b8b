-- The invariants of adding two lists of steps, from the first instant on.
use Rattle.std.specs.Prelude.{◌≡◌, ◌+◌, ◌^◌, ◌<◌, FitsSigned, List, [], ◌∷◌, ℤ, ◌+ℤ◌, ◌≤ℤ◌, ◌<ℤ◌, Contains}
use Rattle.std.specs.Int.{w128}
use Rattle.dip_core.specs.declared.item.Item.{Item}
use Rattle.merge_core.specs.declared.tally.Tally.{Tally}
use Rattle.merge_core.specs.declared.step.Step.{Step}
use Rattle.merge_core.specs.Tallies.{IsTally, both}
use Rattle.merge_core.specs.Steps.{tally_at, AreStepsApart, IsWeighed}

-- `s` is the step of the item `x`.
pub record IsLoneStep (x : Item) (s : Step) : Type 0 where
  pub period : s.period ≡ x.period
  pub tally : IsTally (x ∷ []) s.tally
  pub weighed : IsWeighed 1 s.tally

-- The steps are the steps of the items, in the same order.
abbrev pub AreLoneSteps : List Item → List Step → Type 0
AreLoneSteps [] [] = Unit {0}
AreLoneSteps [] (s ∷ ss) = ⊥
AreLoneSteps (x ∷ xs) [] = ⊥
AreLoneSteps (x ∷ xs) (s ∷ ss) = IsLoneStep x s × AreLoneSteps xs ss

-- The count and the sum of two tallies fit their types.
pub record CanAddTallies (a b : Tally) : Type 0 where
  pub count : a.count + b.count < 2 ^ 64
  pub sum : FitsSigned w128 (a.sum +ℤ b.sum)

-- The tallies of any two steps, one of each list, can be added.
abbrev pub CanAdd : List Step → List Step → Type 0
CanAdd xs ys = (x y : Step) → Contains xs x → Contains ys y → CanAddTallies x.tally y.tally

-- At each instant the tally of `steps` is the sum of both lists' tallies.
pub record IsBothSteps (one other steps : List Step) : Type 0 where
  pub apart : AreStepsApart steps
  pub tallies : (t : ℤ) → tally_at steps t ≡ both (tally_at one t) (tally_at other t)

-- From `at` on, the tally of `steps` is the sum of both lists' tallies; no step starts before `at`.
pub record IsBothFrom (at : ℤ) (xs ys steps : List Step) : Type 0 where
  pub apart : AreStepsApart steps
  pub starts : (s : Step) → Contains steps s → at ≤ℤ s.period.from
  pub tallies : (t : ℤ) → at ≤ℤ t → tally_at steps t ≡ both (tally_at xs t) (tally_at ys t)

-- Each step starts at `at` or later.
abbrev pub StartsFrom : ℤ → List Step → Type 0
StartsFrom at steps = (s : Step) → Contains steps s → at ≤ℤ s.period.from

-- Each step ends at `at` or later.
abbrev pub EndsFrom : ℤ → List Step → Type 0
EndsFrom at steps = (s : Step) → Contains steps s → at ≤ℤ s.period.to

-- Each step ends after `at`.
abbrev pub EndsBeyond : ℤ → List Step → Type 0
EndsBeyond at steps = (s : Step) → Contains steps s → at <ℤ s.period.to

-- `s` is the rest of the first step from `at` on.
pub record IsHeadFrom (at : ℤ) (steps : List Step) (s : Step) : Type 0 where
  pub from : at ≤ℤ s.period.from
  pub ends : EndsFrom s.period.to steps
  pub tallies : (t : ℤ) → at ≤ℤ t → t <ℤ s.period.to → tally_at (s ∷ []) t ≡ tally_at steps t
  pub origin : Step
  pub origin_in : Contains steps origin
  pub tally : s.tally ≡ origin.tally

-- Before its end, `s` has the tally of both steps together, and it ends no later than either.
pub record IsFirstOfBoth (x y s : Step) : Type 0 where
  pub from : (at : ℤ) → at ≤ℤ x.period.from → at ≤ℤ y.period.from → at ≤ℤ s.period.from
  pub to_left : s.period.to ≤ℤ x.period.to
  pub to_right : s.period.to ≤ℤ y.period.to
  pub tallies : (t : ℤ) → t <ℤ s.period.to
      → tally_at (s ∷ []) t ≡ both (tally_at (x ∷ []) t) (tally_at (y ∷ []) t)

-- From `at` until its end, `s` has the tally of both lists together, and none of their steps ends earlier.
pub record IsNextStep (at : ℤ) (xs ys : List Step) (s : Step) : Type 0 where
  pub from : at ≤ℤ s.period.from
  pub left_ends : EndsFrom s.period.to xs
  pub right_ends : EndsFrom s.period.to ys
  pub tallies : (t : ℤ) → at ≤ℤ t → t <ℤ s.period.to
      → tally_at (s ∷ []) t ≡ both (tally_at xs t) (tally_at ys t)

-- `new` are the steps of `old` after those that end by `at` are passed.
pub record IsBeyond (at : ℤ) (old new : List Step) : Type 0 where
  pub same : (t : ℤ) → at ≤ℤ t → tally_at old t ≡ tally_at new t
  pub beyond : EndsBeyond at new
  pub apart : AreStepsApart new
  pub within : (s : Step) → Contains new s → Contains old s
