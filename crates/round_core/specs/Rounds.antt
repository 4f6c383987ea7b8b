-- A round: which lists are added in twos, which are set aside, and where the sums go.
use Rattle.std.specs.Prelude.{◌+◌, ℕ, List, [], ◌∷◌}
use Rattle.merge_core.specs.Steps.{StepList, IsBoth}
use Rattle.round_core.specs.declared.class_steps.ClassSteps.{ClassSteps}
use Rattle.round_core.specs.declared.round.Slot.{Slot}
use Rattle.round_core.specs.declared.round.Slot.TheVariants.{Aside, OfTwo}

-- The steps of a class.
abbrev pub of : ℕ → StepList → ClassSteps
of class steps = record { class = class; steps = steps }

-- How many slots wait for the sum of two lists.
abbrev pub twos_in : List Slot → ℕ
twos_in [] = 0
twos_in (Aside list ∷ slots) = twos_in slots
twos_in (OfTwo class ∷ slots) = 1 + twos_in slots

-- The lists that were sorted into these slots and twos.
abbrev pub sorted_lists : List Slot → List StepList → List ClassSteps
sorted_lists [] twos = []
sorted_lists (Aside list ∷ slots) twos = list ∷ sorted_lists slots twos
sorted_lists (OfTwo class ∷ slots) [] = []
sorted_lists (OfTwo class ∷ slots) (a ∷ []) = []
sorted_lists (OfTwo class ∷ slots) (a ∷ (b ∷ twos)) = of class a ∷ (of class b ∷ sorted_lists slots twos)

-- The lists of these slots with the sums of the twos.
abbrev pub filled : List Slot → List StepList → List ClassSteps
filled [] made = []
filled (Aside list ∷ slots) made = list ∷ filled slots made
filled (OfTwo class ∷ slots) [] = []
filled (OfTwo class ∷ slots) (o ∷ made) = of class o ∷ filled slots made

-- Each value is the sum of the next two lists.
abbrev pub AreBoths : List StepList → List StepList → Type 0
AreBoths [] [] = Unit {0}
AreBoths [] (o ∷ made) = ⊥
AreBoths (a ∷ []) made = ⊥
AreBoths (a ∷ (b ∷ twos)) [] = ⊥
AreBoths (a ∷ (b ∷ twos)) (o ∷ made) = IsBoth a b o × AreBoths twos made
