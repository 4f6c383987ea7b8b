-- Lists in the order of a number that each of their items has.
use Rattle.std.specs.Prelude.{ℕ, ◌<◌, List, length}
use Rattle.std.specs.List.{AllAdjacentBelow}

-- the number of each item is less than that of the next
abbrev pub RiseBy : {X : Type 0} → (X → ℕ) → List X → Type 0
RiseBy number xs = AllAdjacentBelow (λ one next. number one < number next) xs (length xs)
