-- Two of some lists, and their weights.
use Rattle.std.proofs.Common.{◌≡◌, ℕ, zero, suc, ◌+◌, ◌<◌, ◌≤◌, List, [], ◌∷◌, length, get_or, ap, ◌∙◌, arith}
use Rattle.std.proofs.lemmas.List.{get_or_default}
use Rattle.merge_core.specs.Steps.{StepList}
use Rattle.round_core.specs.Together.{all_weight}
use Rattle.round_core.specs.Twos.{list_at, no_steps}

-- the weight of one list is at most the weight of all
one_weight : (lists : List StepList) (i : ℕ) → (list_at lists i).weight ≤ all_weight lists
one_weight [] i = omega arith
one_weight (l ∷ lists) zero = omega arith
one_weight (l ∷ lists) (suc i) = let h = one_weight lists i in omega (arith, h)

-- the weight of two lists is at most the weight of all
two_weights : (lists : List StepList) (i j : ℕ) → i < j
    → (list_at lists i).weight + (list_at lists j).weight ≤ all_weight lists
two_weights [] i j h = omega arith
two_weights (l ∷ lists) i zero h = absurd (omega arith)
two_weights (l ∷ lists) zero (suc j) h = let k = one_weight lists j in omega (arith, k)
two_weights (l ∷ lists) (suc i) (suc j) h = let k = two_weights lists i j (omega arith) in omega (arith, k)

-- the same for lists read by index
pub two_of_all : (lists : List StepList) (i j : ℕ) (a b : StepList) → i < j → j < length lists → a ≡ get_or lists i a
    → b ≡ get_or lists j b → a.weight + b.weight ≤ all_weight lists
two_of_all lists i j a b h k e f =
    let x : a ≡ list_at lists i = e ∙ get_or_default lists i a no_steps (omega arith) in
    let y : b ≡ list_at lists j = f ∙ get_or_default lists j b no_steps k in
    let u : a.weight ≡ (list_at lists i).weight = ap (λ (l : StepList). l.weight) x in
    let v : b.weight ≡ (list_at lists j).weight = ap (λ (l : StepList). l.weight) y in
    let w = two_weights lists i j h in
    omega (arith, u, v, w)
