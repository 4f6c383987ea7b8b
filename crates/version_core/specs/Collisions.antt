-- Rows of a table with a key: no two may be equal in the key's columns and overlap.
use Rattle.std.specs.Prelude.{◌≡◌, ℕ, ℤ, List, [], ◌∷◌, All, AllPairs, Bool, false, ◌&&◌, ◌||◌, is_some, slice_get}
use Rattle.std.specs.List.{list_all, list_any}
use Rattle.period_core.specs.Period.{Holds, meet}
use Rattle.row_core.specs.ValueOrder.{same_maybe}
use Rattle.row_core.specs.declared.draft.Draft.{Draft}
use Rattle.row_core.specs.declared.value.Value.{Value}

-- the values are equal in each of the columns
abbrev pub same_key : List ℕ → List Value → List Value → Bool
same_key key a b = list_all (λ column. same_maybe (slice_get a column) (slice_get b column)) key

-- two rows are equal in each of the key's columns, and overlap
abbrev pub collide : List ℕ → Draft → Draft → Bool
collide key a b = same_key key a.values b.values && is_some (meet a.period b.period)

-- the test holds for two elements at different indexes
abbrev pub have_pair : {X : Type 0} → (X → X → Bool) → List X → Bool
have_pair test [] = false
have_pair test (x ∷ xs) = list_any (test x) xs || have_pair test xs

-- two rows at different indexes are equal in each of the key's columns, and overlap
abbrev pub have_collision : List ℕ → List Draft → Bool
have_collision key rows = have_pair (collide key) rows

-- rows at different indexes that are equal in each of the key's columns have no common instant
abbrev pub AreWithoutOverlaps : List ℕ → List Draft → Type 0
AreWithoutOverlaps key rows =
    AllPairs (λ a b. (t : ℤ) → All (λ column. slice_get a.values column ≡ slice_get b.values column) key
    → Holds a.period t → Holds b.period t → ⊥) rows
