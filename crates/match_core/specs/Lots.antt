-- Rows of two tables that are partitioned into lots, so that matching rows go to the same lot.
use Rattle.std.specs.Prelude.{◌≡◌, ◌==◌, ◌↔◌, ℕ, List, map, filter, Contains, Bool, Option}
use Rattle.std.specs.List.{list_any}
use Rattle.list_core.specs.Wanted.{IsListOf}
use Rattle.row_core.specs.Name.{NamePair}
use Rattle.row_core.specs.Rows.{RowsRise}
use Rattle.row_core.specs.declared.row.Row.{Row}
use Rattle.row_core.specs.declared.schema.Column.{Column}
use Rattle.row_core.specs.declared.value.Value.{Value}
use Rattle.match_core.specs.Columns.{MatchesOn, value_under}

-- The rows that go to a lot; `lot_of` maps a row to its lot's number.
abbrev pub rows_sent : (Row → ℕ) → ℕ → List Row → List Row
rows_sent lot_of lot rows = filter (λ (row : Row). lot_of row == lot) rows

-- Some row has the id.
abbrev pub has_id : List Row → ℕ → Bool
has_id rows id = list_any (λ (row : Row). row.id == id) rows

-- `x` is in some lot's list.
abbrev pub IsInSome : {X : Type 0} → (ℕ → List X) → X → Type 0
IsInSome list_of x = (lot : ℕ) × Contains (list_of lot) x

-- Matching left and right rows go to the same lot.
abbrev pub SendsTogether : (Row → Row → Type 0) → (Row → ℕ) → (Row → ℕ) → List Row → List Row → Type 0
SendsTogether Matches left_lot right_lot left right =
    (x y : Row) → Contains left x → Contains right y → Matches x y → left_lot x ≡ right_lot y

-- The values of a left row in the compared columns.
abbrev pub left_values : List Column → List NamePair → Row → List (Option Value)
left_values columns on row = map (λ (names : NamePair). value_under columns names.0 row) on

-- The values of a right row in the compared columns.
abbrev pub right_values : List Column → List NamePair → Row → List (Option Value)
right_values columns on row = map (λ (names : NamePair). value_under columns names.1 row) on

-- Rows match exactly if their lists of values in the compared columns are equal.
abbrev pub RowsMatchByValues : Type 0
RowsMatchByValues =
    (left_columns right_columns : List Column) (on : List NamePair) (x y : Row)
    → MatchesOn left_columns right_columns on x y ↔ (left_values left_columns on x ≡ right_values right_columns on y)

-- So any function of these values alone sends matching rows to the same lot.
abbrev pub ValuesSendTogether : Type 0
ValuesSendTogether =
    (left_columns right_columns : List Column) (on : List NamePair) (hash : List (Option Value) → ℕ)
    (left right : List Row)
    → SendsTogether (MatchesOn left_columns right_columns on) (λ x. hash (left_values left_columns on x))
    (λ y. hash (right_values right_columns on y)) left right

-- ---- answers that each belong to a left row. `Wanted` says what the answers to two lists of rows are, given which
-- rows match

-- The answers to the rows of a lot.
abbrev pub AreLotAnswers : {X : Type 0} → (X → X → Type 0) → (List Row → List Row → X → Type 0) → (Row → ℕ) → (Row → ℕ)
    → List Row → List Row → ℕ → List X → Type 0
AreLotAnswers Before Wanted left_lot right_lot left right lot answers =
    IsListOf Before (Wanted (rows_sent left_lot lot left) (rows_sent right_lot lot right)) answers

-- The answers whose left row goes to a lot; `left_id` maps an answer to the id of its left row.
abbrev pub answers_sent : {X : Type 0} → (X → ℕ) → (Row → ℕ) → List Row → ℕ → List X → List X
answers_sent {X} left_id left_lot left lot answers =
    filter (λ (x : X). has_id (rows_sent left_lot lot left) (left_id x)) answers

-- If matching rows go to the same lot, and the left ids are ascending, the answers to a lot are the answers to all
-- rows whose left row goes to that lot.
abbrev pub LotIsOfWhole : {X : Type 0} → (X → X → Type 0)
    → ((Row → Row → Type 0) → List Row → List Row → X → Type 0) → (X → ℕ) → Type 0
LotIsOfWhole {X} Before Wanted left_id =
    (left_columns right_columns : List Column) (on : List NamePair) (left right : List Row)
    (left_lot right_lot : Row → ℕ) (lot : ℕ) (whole answers : List X)
    → RowsRise left
    → SendsTogether (MatchesOn left_columns right_columns on) left_lot right_lot left right
    → IsListOf Before (Wanted (MatchesOn left_columns right_columns on) left right) whole
    → AreLotAnswers Before (Wanted (MatchesOn left_columns right_columns on)) left_lot right_lot left right lot answers
    → answers ≡ answers_sent left_id left_lot left lot whole

-- If matching rows go to the same lot, the answers to all rows are, in order, the answers to the lots.
abbrev pub WholeIsOfLots : {X : Type 0} → (X → X → Type 0)
    → ((Row → Row → Type 0) → List Row → List Row → X → Type 0) → Type 0
WholeIsOfLots {X} Before Wanted =
    (left_columns right_columns : List Column) (on : List NamePair) (left right : List Row)
    (left_lot right_lot : Row → ℕ) (answers_of : ℕ → List X) (whole : List X)
    → SendsTogether (MatchesOn left_columns right_columns on) left_lot right_lot left right
    → ((lot : ℕ) → AreLotAnswers Before (Wanted (MatchesOn left_columns right_columns on)) left_lot right_lot left right
    lot (answers_of lot))
    → IsListOf Before (Wanted (MatchesOn left_columns right_columns on) left right) whole
    ↔ IsListOf Before (IsInSome answers_of) whole

-- If the left ids are ascending, no answer is in the lists of two lots.
abbrev pub LotsAreApart : {X : Type 0} → (X → X → Type 0)
    → ((Row → Row → Type 0) → List Row → List Row → X → Type 0) → Type 0
LotsAreApart {X} Before Wanted =
    (left_columns right_columns : List Column) (on : List NamePair) (left right : List Row)
    (left_lot right_lot : Row → ℕ) (one other : ℕ) (answers more : List X) (x : X)
    → RowsRise left
    → AreLotAnswers Before (Wanted (MatchesOn left_columns right_columns on)) left_lot right_lot left right one answers
    → AreLotAnswers Before (Wanted (MatchesOn left_columns right_columns on)) left_lot right_lot left right other more
    → Contains answers x → Contains more x → one ≡ other
