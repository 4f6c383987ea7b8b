-- Coalescing the steps of a class: neighbours that touch and have the same value are one constant interval.
use Rattle.std.specs.Prelude.{◌≡◌, Option, Some, None, List, [], ◌∷◌, ℕ, map, if◌then◌else◌, ℤ, ◌≤ℤ◌, AllPairs, Contains}
use Rattle.period_core.specs.Period.{holds_at}
use Rattle.list_core.specs.Wanted.{IsListOf}
use Rattle.merge_core.specs.declared.tally.Tally.{Tally}
use Rattle.merge_core.specs.declared.step.Step.{Step}
use Rattle.merge_core.specs.Gaps.{IsMaximal}
use Rattle.merge_core.specs.Steps.{tally_at}
use Rattle.round_core.specs.declared.class_steps.ClassSteps.{ClassSteps}
use Rattle.round_core.specs.declared.measure.Measure.{Measure}
use Rattle.round_core.specs.declared.plateau.Plateau.{Plateau}
use Rattle.round_core.specs.Plateaus.{measured, PlateauBefore}

-- The steps have this value at `t`.
abbrev pub GivesValue : Measure → List Step → ℤ → ℤ → Type 0
GivesValue measure steps value t =
    (tally : Tally) × (tally_at steps t ≡ Some tally) × (measured measure tally ≡ value)

-- A class, and a maximal period in which the steps have one value.
pub record IsStepPlateau (measure : Measure) (class : ℕ) (steps : List Step) (plateau : Plateau) : Type 0 where
  pub class_is : plateau.class ≡ class
  pub maximal : IsMaximal (GivesValue measure steps plateau.value) plateau.period

-- A constant interval of some list.
pub record IsPlateauOfSome (measure : Measure) (lists : List ClassSteps) (plateau : Plateau) : Type 0 where
  pub list : ClassSteps
  pub list_in : Contains lists list
  pub is : IsStepPlateau measure list.class list.steps.steps plateau

-- A step as a constant interval of the measured value.
abbrev pub valued_step : Measure → ℕ → Step → Plateau
valued_step measure class s = record { class = class; period = s.period; value = measured measure s.tally }

-- Each step as such an interval.
abbrev pub valued : Measure → ℕ → List Step → List Plateau
valued measure class steps = map (λ (s : Step). valued_step measure class s) steps

-- The value of the first interval that holds `t`.
abbrev pub value_at : List Plateau → ℤ → Option ℤ
value_at [] t = None
value_at (r ∷ rows) t = (if holds_at t r.period then Some r.value else value_at rows t)

-- The intervals have this value at `t`.
abbrev pub HasValueAt : List Plateau → ℤ → ℤ → Type 0
HasValueAt rows value t = value_at rows t ≡ Some value

-- A class, and a maximal period in which the intervals have one value.
pub record IsClosed (class : ℕ) (rows : List Plateau) (plateau : Plateau) : Type 0 where
  pub class_is : plateau.class ≡ class
  pub maximal : IsMaximal (HasValueAt rows plateau.value) plateau.period

-- All such periods.
abbrev pub ListsClosed : ℕ → List Plateau → List Plateau → Type 0
ListsClosed class rows closed = IsListOf PlateauBefore (IsClosed class rows) closed

-- Each interval ends at or before the start of each later one.
abbrev pub AreApart : List Plateau → Type 0
AreApart rows = AllPairs (λ (a b : Plateau). a.period.to ≤ℤ b.period.from) rows

-- The second interval starts where the first ends, with the same value.
pub record Continues (a b : Plateau) : Type 0 where
  pub touches : a.period.to ≡ b.period.from
  pub same : a.value ≡ b.value

-- Both intervals as one.
pub record IsJoined (a b joined : Plateau) : Type 0 where
  pub class_is : joined.class ≡ a.class
  pub from : joined.period.from ≡ a.period.from
  pub to : joined.period.to ≡ b.period.to
  pub value : joined.value ≡ a.value
