-- The contract view of a claim: a list of parts, each a list of ids.
use Rattle.std.specs.Prelude.{◌≡◌, ◌≢◌, ℕ, ◌<◌, List, [], ◌∷◌, ◌++◌, Some, flat_map, slice_get}

-- All ids of the claim, part by part, in each part's order.
abbrev pub ids_of : List (List ℕ) → List ℕ
ids_of claim = flat_map (λ part. part) claim

-- The new parts are the old ones with the id appended to the last part.
abbrev pub AddsToLast : (old new : List (List ℕ)) → ℕ → Type 0
AddsToLast old new id =
    (before : List (List ℕ)) (last : List ℕ) → old ≡ before ++ last ∷ [] → new ≡ before ++ (last ++ id ∷ []) ∷ []

-- Part `k`, counted from 0, is the first part without ids.
pub record IsEmptyPart (claim : List (List ℕ)) (k : ℕ) : Type 0 where
  pub empty : slice_get claim k ≡ Some []
  pub first : (j : ℕ) → j < k → slice_get claim j ≢ Some []
