-- Several lists of steps.
use Rattle.std.specs.Prelude.{◌+◌, ℕ, List, [], ◌∷◌}
use Rattle.merge_core.specs.Steps.{StepList}

-- The sum of the weights of some lists.
abbrev pub all_weight : List StepList → ℕ
all_weight [] = 0
all_weight (l ∷ ls) = l.weight + all_weight ls
