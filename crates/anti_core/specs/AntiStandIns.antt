-- The anti-join of rows that stand for others, compared with the anti-join of the others.
use Rattle.std.specs.Prelude.{ℕ}
use Rattle.match_core.specs.StandIns.{AnswersAreOfCodes, AnswersAreOfStandIns}
use Rattle.anti_core.specs.Anti.{AntiRowBefore, IsAntiRow}
use Rattle.anti_core.specs.declared.rows.AntiRow.{AntiRow}

-- An anti-join's row with the id of the row that its row stands for.
abbrev pub anti_row_of : (ℕ → ℕ) → AntiRow → AntiRow
anti_row_of id_of row = record { id = id_of row.id; period = row.period }

-- The anti-join of rows that stand for others is, with the others' ids, the anti-join of the others.
abbrev pub AntiIsOfStandIns : Type 0
AntiIsOfStandIns = AnswersAreOfStandIns AntiRowBefore IsAntiRow (λ left_id right_id. anti_row_of left_id)

-- The same for rows that match exactly if the others do.
abbrev pub AntiIsOfCodes : Type 0
AntiIsOfCodes = AnswersAreOfCodes AntiRowBefore IsAntiRow (λ left_id right_id. anti_row_of left_id)
