-- Lists of numbers, and repeated numbers.
use Rattle.std.specs.Prelude.{◌≡◌, ◌==◌, ℕ, ◌≤◌, List, ◌∷◌, ◌++◌, Contains, count_by}

-- No number occurs twice.
abbrev pub IsDistinct : List ℕ → Type 0
IsDistinct ids = (i : ℕ) → count_by (λ id. id == i) ids ≤ 1

-- `id` is the first number that occurs earlier in the list.
pub record IsTwice (ids : List ℕ) (id : ℕ) : Type 0 where
  pub before : List ℕ
  pub after : List ℕ
  pub stands : ids ≡ before ++ id ∷ after
  pub again : Contains before id
  pub first : IsDistinct before
