-- The instants of left rows, in the join and in the anti-join of two lists of rows.
use Rattle.std.specs.Prelude.{◌≡◌, ◌⊎◌, ℕ, ℤ, List, Contains}
use Rattle.period_core.specs.Period.{Holds}
use Rattle.row_core.specs.Name.{NamePair}
use Rattle.row_core.specs.Rows.{RowsRise}
use Rattle.row_core.specs.declared.row.Row.{Row}
use Rattle.row_core.specs.declared.schema.Column.{Column}
use Rattle.match_core.specs.Columns.{MatchesOn}
use Rattle.join_core.specs.declared.rows.JoinRow.{JoinRow}
use Rattle.join_core.specs.Join.{IsJoin}
use Rattle.anti_core.specs.declared.rows.AntiRow.{AntiRow}
use Rattle.anti_core.specs.Anti.{IsAnti}

-- Some row of the join with the left id holds `t`.
pub record IsJoined (joined : List JoinRow) (id : ℕ) (t : ℤ) : Type 0 where
  pub row : JoinRow
  pub row_in : Contains joined row
  pub left_id : row.left ≡ id
  pub holds : Holds row.period t

-- Some row of the anti-join with the id holds `t`.
pub record IsAlone (alone : List AntiRow) (id : ℕ) (t : ℤ) : Type 0 where
  pub row : AntiRow
  pub row_in : Contains alone row
  pub id_is : row.id ≡ id
  pub holds : Holds row.period t

-- A fact about each left row and each instant, for the join and the anti-join of the same rows by the same columns.
abbrev pub OfLeftRows : (List Row → List JoinRow → List AntiRow → Row → ℤ → Type 0) → Type 0
OfLeftRows Is = (left_columns right_columns : List Column) (on : List NamePair) (left right : List Row)
    (joined : List JoinRow) (alone : List AntiRow)
    → IsJoin (MatchesOn left_columns right_columns on) left right joined
    → IsAnti (MatchesOn left_columns right_columns on) left right alone
    → (x : Row) (t : ℤ) → Contains left x → Is left joined alone x t

-- An instant that the row holds is in one of the two.
abbrev pub EachInstantIsListed : Type 0
EachInstantIsListed = OfLeftRows
    (λ left joined alone x t. Holds x.period t → IsJoined joined x.id t ⊎ IsAlone alone x.id t)

-- If ids are ascending, no instant is in both.
abbrev pub NoInstantIsListedTwice : Type 0
NoInstantIsListedTwice = OfLeftRows
    (λ left joined alone x t. RowsRise left → IsJoined joined x.id t → IsAlone alone x.id t → ⊥)

-- If ids are ascending, an instant in one of the two is an instant that the row holds.
abbrev pub NoOtherIsListed : Type 0
NoOtherIsListed = OfLeftRows
    (λ left joined alone x t. RowsRise left → IsJoined joined x.id t ⊎ IsAlone alone x.id t → Holds x.period t)
