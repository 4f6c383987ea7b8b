-- Tallies by instant, stored as periods with a constant tally.
use Rattle.std.specs.Prelude.{◌≡◌, ◌+◌, ◌*◌, ◌^◌, ◌≤◌, ℕ, if◌then◌else◌, Option, Some, None, List, [], ◌∷◌, length, ℤ, pos, neg_ℤ, ◌≤ℤ◌, AllPairs, Contains}
use Rattle.period_core.specs.Period.{Holds, holds_at}
use Rattle.dip_core.specs.declared.item.Item.{Item}
use Rattle.merge_core.specs.declared.tally.Tally.{Tally}
use Rattle.merge_core.specs.declared.step.Step.{Step}
use Rattle.merge_core.specs.Tallies.{IsTallyAt, both}

-- The tally of the first step that holds `t`, or `None` if no step does.
abbrev pub tally_at : List Step → ℤ → Option Tally
tally_at [] t = None
tally_at (s ∷ steps) t = (if holds_at t s.period then Some s.tally else tally_at steps t)

-- `tally` is the tally of the only step that holds `t`.
pub record IsTallyHeld (steps : List Step) (t : ℤ) (tally : Tally) : Type 0 where
  pub step : Step
  pub step_in : Contains steps step
  pub held : Holds step.period t
  pub same : tally ≡ step.tally
  pub only : (s : Step) → Contains steps s → Holds s.period t → s ≡ step

-- The tally of the only step that holds `t`, or `None` if no step does.
abbrev pub IsTallyHeldAt : List Step → ℤ → Option Tally → Type 0
IsTallyHeldAt steps t None = (s : Step) → Contains steps s → Holds s.period t → ⊥
IsTallyHeldAt steps t (Some tally) = IsTallyHeld steps t tally

-- Each step ends at or before the start of each later one.
abbrev pub AreStepsApart : List Step → Type 0
AreStepsApart steps = AllPairs (λ (a b : Step). a.period.to ≤ℤ b.period.from) steps

-- Steps, and the number of items that they count.
pub record StepList : Type 0 where
  pub steps : List Step
  pub weight : ℕ

-- At each instant the steps have the tally of the items that hold it; the weight is the number of items.
pub record IsStepListOf (items : List Item) (list : StepList) : Type 0 where
  pub tallies : (t : ℤ) → IsTallyAt items t (tally_at list.steps t)
  pub weight : list.weight ≡ length items

-- At each instant the tally is the sum of both lists' tallies; the weight is the sum of both weights.
pub record IsBoth (one other list : StepList) : Type 0 where
  pub tallies : (t : ℤ) → tally_at list.steps t ≡ both (tally_at one.steps t) (tally_at other.steps t)
  pub weight : list.weight ≡ one.weight + other.weight

-- The count and the sum are within the bounds for `weight` amounts of 64 bits.
pub record IsWeighed (weight : ℕ) (tally : Tally) : Type 0 where
  pub count : tally.count ≤ weight
  pub least : neg_ℤ (pos (weight * 2 ^ 63)) ≤ℤ tally.sum
  pub most : tally.sum ≤ℤ pos (weight * 2 ^ 63)

-- Every step's tally is within these bounds.
abbrev pub AreWeighed : ℕ → List Step → Type 0
AreWeighed weight steps = (s : Step) → Contains steps s → IsWeighed weight s.tally

-- The invariant of a list of steps.
pub record IsStepList (weight : ℕ) (steps : List Step) : Type 0 where
  pub apart : AreStepsApart steps
  pub weighed : AreWeighed weight steps
