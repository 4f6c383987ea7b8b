-- The join of rows that stand for others, compared with the join of the others.
use Rattle.std.specs.Prelude.{ℕ}
use Rattle.match_core.specs.StandIns.{AnswersAreOfCodes, AnswersAreOfStandIns}
use Rattle.join_core.specs.Join.{IsJoinRow, RowBefore}
use Rattle.join_core.specs.declared.rows.JoinRow.{JoinRow}

-- A join's row with the ids of the rows that its rows stand for.
abbrev pub join_row_of : (ℕ → ℕ) → (ℕ → ℕ) → JoinRow → JoinRow
join_row_of left_id right_id row =
    record { period = row.period; left = left_id row.left; right = right_id row.right }

-- The join of rows that stand for others is, with the others' ids, the join of the others.
abbrev pub JoinIsOfStandIns : Type 0
JoinIsOfStandIns = AnswersAreOfStandIns RowBefore IsJoinRow join_row_of

-- The same for rows that match exactly if the others do.
abbrev pub JoinIsOfCodes : Type 0
JoinIsOfCodes = AnswersAreOfCodes RowBefore IsJoinRow join_row_of
