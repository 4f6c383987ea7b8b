-- Rows that stand for other rows, in a table of their own.
use Rattle.std.specs.Prelude.{◌≡◌, ◌<◌, ◌↔◌, ℕ, List, map, Contains, Option}
use Rattle.list_core.specs.Wanted.{IsListOf}
use Rattle.row_core.specs.Name.{NamePair}
use Rattle.row_core.specs.declared.row.Row.{Row}
use Rattle.row_core.specs.declared.schema.Column.{Column}
use Rattle.row_core.specs.declared.value.Value.{Value}
use Rattle.match_core.specs.Columns.{MatchesOn}
use Rattle.match_core.specs.Lots.{left_values, right_values}

-- Each row stands for `row_of row`: it has the same period, and its own id, which the increasing function `id_of` maps
-- to that row's id.
pub record StandFor (row_of : Row → Row) (id_of : ℕ → ℕ) (rows : List Row) : Type 0 where
  pub period_is : (row : Row) → Contains rows row → (row_of row).period ≡ row.period
  pub id_is : (row : Row) → Contains rows row → (row_of row).id ≡ id_of row.id
  pub rises : (m n : ℕ) → m < n → id_of m < id_of n

-- Each row has the same values in the compared columns as the row it stands for.
abbrev pub KeepValues : (Row → List (Option Value)) → (Row → List (Option Value)) → (Row → Row) → List Row → Type 0
KeepValues values_here values_there row_of rows =
    (row : Row) → Contains rows row → values_there (row_of row) ≡ values_here row

-- A left and a right row match exactly if the rows they stand for match.
abbrev pub MatchAlike : (Row → Row → Type 0) → (Row → Row → Type 0) → (Row → Row) → (Row → Row)
    → List Row → List Row → Type 0
MatchAlike here there left_of right_of left right =
    (x y : Row) → Contains left x → Contains right y → here x y ↔ there (left_of x) (right_of y)

-- If rows match exactly if the rows they stand for match, then the answers to them are the answers to those rows, with
-- these rows' ids; `with_ids` replaces the ids in an answer.
abbrev pub AnswersAreOfCodes : {X : Type 0} → (X → X → Type 0)
    → ((Row → Row → Type 0) → List Row → List Row → X → Type 0) → ((ℕ → ℕ) → (ℕ → ℕ) → X → X) → Type 0
AnswersAreOfCodes {X} Before Wanted with_ids =
    (left_here right_here left_there right_there : List Column) (on_here on_there : List NamePair)
    (left right : List Row) (left_of right_of : Row → Row) (left_id right_id : ℕ → ℕ) (answers : List X)
    → StandFor left_of left_id left → StandFor right_of right_id right
    → MatchAlike (MatchesOn left_here right_here on_here) (MatchesOn left_there right_there on_there) left_of right_of
    left right
    → IsListOf Before (Wanted (MatchesOn left_here right_here on_here) left right) answers
    → IsListOf Before (Wanted (MatchesOn left_there right_there on_there) (map left_of left) (map right_of right))
    (map (with_ids left_id right_id) answers)

-- The same for rows that have the compared values of the rows they stand for.
abbrev pub AnswersAreOfStandIns : {X : Type 0} → (X → X → Type 0)
    → ((Row → Row → Type 0) → List Row → List Row → X → Type 0) → ((ℕ → ℕ) → (ℕ → ℕ) → X → X) → Type 0
AnswersAreOfStandIns {X} Before Wanted with_ids =
    (left_here right_here left_there right_there : List Column) (on_here on_there : List NamePair)
    (left right : List Row) (left_of right_of : Row → Row) (left_id right_id : ℕ → ℕ) (answers : List X)
    → StandFor left_of left_id left → StandFor right_of right_id right
    → KeepValues (left_values left_here on_here) (left_values left_there on_there) left_of left
    → KeepValues (right_values right_here on_here) (right_values right_there on_there) right_of right
    → IsListOf Before (Wanted (MatchesOn left_here right_here on_here) left right) answers
    → IsListOf Before (Wanted (MatchesOn left_there right_there on_there) (map left_of left) (map right_of right))
    (map (with_ids left_id right_id) answers)
