-- Lists of entries, each with the number of its caller.
use Rattle.std.specs.Prelude.{◌≡◌, ℕ, ◌==◌, ◌<◌, ◌≤◌, ◌⊎◌, List, [], ◌∷◌, ◌++◌, All, filter}

module _ {E : Type 0} (by : E → ℕ) where
  -- the entries of one caller, in order
  abbrev pub own : ℕ → List E → List E
  own caller es = filter (λ e. by e == caller) es

  -- each entry has a number from 1 to the mark
  abbrev pub AreOfCallers : ℕ → List E → Type 0
  AreOfCallers mark es = All (λ e. (0 < by e) × (by e ≤ mark)) es

  -- the entries stay, and at most one is added, which is the caller's
  abbrev pub AddsAtMostOne : ℕ → List E → List E → Type 0
  AddsAtMostOne caller es after = (after ≡ es) ⊎ ((e : E) × (by e ≡ caller) × (after ≡ es ++ e ∷ []))
