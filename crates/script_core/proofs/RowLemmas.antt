-- One more row of a load.
use Rattle.std.proofs.Common.{◌≡◌, ◌∙◌, ◌≤◌, ℕ, List, [], ◌∷◌, ◌++◌, Result, Ok, Err, true, ap, arith, drop, length, refl, sym}
use Rattle.std.specs.Prelude.{codes}
use Rattle.row_core.specs.Reading.{row_of}
use Rattle.row_core.specs.Refusals.{IsAnswer, map_err, map_ok}
use Rattle.draft_core.specs.RowsRead.{RowsRead}
use Rattle.row_core.specs.declared.draft.Draft.{Draft}
use Rattle.row_core.specs.declared.failure.Failure as row
use Rattle.row_core.specs.declared.failure.Failure.TheVariants.{NoMemory, Refused}
use Rattle.row_core.specs.declared.reading.RowRefused.{RowRefused}
use Rattle.command_core.specs.Records.{Record}
use Rattle.command_core.specs.Words.{begins}
use Rattle.script_core.specs.Effects.{loaded_row}
use Rattle.script_core.specs.Failure.{IsRecordFailure, failure_at}
use Rattle.script_core.specs.Refusal.{row_refusal}

-- The rows already read, and one more.
abbrev with_row : RowsRead → Draft → RowsRead
with_row before row = record before { rows = before.rows ++ row ∷ [] }

-- A record that begins with a word has a field.
pub begun : (word : List ℕ) (line : Record) → begins word line ≡ true → 1 ≤ length line
begun word [] e = absurd (cc)
begun word (first ∷ rest) e = omega arith

-- A load's record with the right word gives the row of its other fields.
row_given : (before : RowsRead) (line fields : Record) (read : Result Draft RowRefused)
    → begins (codes "row") line ≡ true → fields ≡ drop 1 line → row_of before.columns fields ≡ read
    → loaded_row before.columns line ≡ map_err row_refusal read
row_given before line fields read word behind is =
    rw word (ap (λ l. map_err row_refusal (row_of before.columns l)) (sym behind) ∙ ap (map_err row_refusal) is)

-- One more row was read.
pub read-more : (before more : RowsRead) (line fields : Record) → begins (codes "row") line ≡ true
    → fields ≡ drop 1 line → map_ok (with_row before) (row_of before.columns fields) ≡ Ok more
    → (row : Draft) × (loaded_row before.columns line ≡ Ok row) × (more ≡ with_row before row)
read-more before more line fields word behind = found (row_of before.columns fields) refl
  where
    found : (read : Result Draft RowRefused) → row_of before.columns fields ≡ read
        → map_ok (with_row before) read ≡ Ok more
        → (row : Draft) × (loaded_row before.columns line ≡ Ok row) × (more ≡ with_row before row)
    found (Ok row) is same = (row, row_given before line fields (Ok row) word behind is, cc)
    found (Err why) is same = absurd (cc)

-- The row is refused, or memory is.
pub read-failed : (number : ℕ) (before : RowsRead) (line fields : Record) (why : row.Failure RowRefused)
    → begins (codes "row") line ≡ true → fields ≡ drop 1 line
    → IsAnswer {T = RowsRead} (map_ok (with_row before) (row_of before.columns fields)) (Err why)
    → IsRecordFailure number (loaded_row before.columns line) (failure_at number row_refusal why)
read-failed number before line fields NoMemory word behind given = tt
read-failed number before line fields (Refused refusal) word behind given =
    found (row_of before.columns fields) refl given
  where
    found : (read : Result Draft RowRefused) → row_of before.columns fields ≡ read
        → map_ok (with_row before) read ≡ Err refusal
        → IsRecordFailure number (loaded_row before.columns line) (failure_at number row_refusal (Refused refusal))
    found (Ok row) is same = absurd (cc)
    found (Err other) is same =
        let one : other ≡ refusal = cc in (
          row_refusal refusal,
          row_given before line fields (Err other) word behind is ∙ ap (λ e. Err (row_refusal e)) one,
          refl,
        )
