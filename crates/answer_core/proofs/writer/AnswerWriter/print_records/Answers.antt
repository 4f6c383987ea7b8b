use Rattle.std.proofs.Common.{[], ◌∷◌, refl}
use Rattle.std.proofs.lemmas.Result.{on_ok_weaker}
use Rattle.answer_core.specs.PrintedRecords.{division_records, error_record, ok_record, verdict_record}
use Rattle.answer_core.proofs.writer.AnswerWriter.print_records.Goals as goal

pub returns-in-Refused : goal.returns-in-Refused
returns-in-Refused g c =
    rw c.in-Refused.is
    (on_ok_weaker c.refuse.result (λ adds. (error_record c.in-Refused.fault ∷ [], refl, adds)) c.refuse.ensures)

pub returns-in-Committed : goal.returns-in-Committed
returns-in-Committed g c =
    rw c.in-Committed.is
    (on_ok_weaker c.accept.result (λ adds. (ok_record c.in-Committed.commit ∷ [], refl, adds)) c.accept.ensures)

pub returns-in-Division : goal.returns-in-Division
returns-in-Division g c =
    rw c.in-Division.is
    (on_ok_weaker c.division.result
    (λ printed. (
      division_records c.in-Division.rows c.in-Division.division printed.0,
      (printed.0, printed.1, refl),
      printed.2,
    )) c.division.ensures)

pub returns-in-Verdict : goal.returns-in-Verdict
returns-in-Verdict g c =
    rw c.in-Verdict.is
    (on_ok_weaker c.verdict.result (λ adds. (verdict_record c.in-Verdict.verdict ∷ [], refl, adds)) c.verdict.ensures)
