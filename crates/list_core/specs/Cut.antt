-- A list cut into parts, each given by the index where it ends.
use Rattle.std.specs.Prelude.{ℕ, ◌≡◌, ◌≤◌, zero, suc, ◌-◌, List, [], ◌∷◌, take, drop, get_or}

-- the parts of a list that end at these indexes; the first part starts at `from`
abbrev pub cut : {X : Type 0} → ℕ → List ℕ → List X → List (List X)
cut from [] xs = []
cut from (end ∷ ends) xs = take (end - from) (drop from xs) ∷ cut end ends xs

-- the ends rise from a start to a size
abbrev pub EndsAt : ℕ → List ℕ → ℕ → Type 0
EndsAt from [] size = from ≡ size
EndsAt from (end ∷ ends) size = (from ≤ end) × EndsAt end ends size

-- the index where part `i` starts
abbrev pub start_at : ℕ → List ℕ → ℕ → ℕ
start_at from ends zero = from
start_at from ends (suc i) = get_or ends i 0
