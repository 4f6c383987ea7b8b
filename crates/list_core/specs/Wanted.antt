-- The list of everything wanted, in order.
use Rattle.std.specs.Prelude.{◌≡◌, ◌++◌, List, ◌↔◌, AllPairs, Contains}

-- the list has exactly the wanted items, each once, and each comes before all later ones
pub record IsListOf {X : Type 0} (Before : X → X → Type 0) (Wanted : X → Type 0) (xs : List X) : Type 0 where
  pub ordered : AllPairs Before xs
  pub exactly : (x : X) → Contains xs x ↔ Wanted x

-- the new list is the old one followed by exactly the wanted items, each once, and each before all later ones
pub record AddsAll {X : Type 0} (Before : X → X → Type 0) (Wanted : X → Type 0) (old new : List X) : Type 0 where
  pub added : List X
  pub split : new ≡ old ++ added
  pub all : IsListOf Before Wanted added
