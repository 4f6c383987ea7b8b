use Rattle.std.proofs.Common.{◌≡◌, ◌∙◌, ℤ, List, Result, Ok, Err, ap, refl}
use Rattle.row_core.specs.Refusals.{map_err, map_ok}
use Rattle.row_core.specs.declared.row.Row.{Row}
use Rattle.answer_core.specs.declared.answer.Answer.TheVariants.{Rows}
use Rattle.store_core.specs.Snapshots.{history, number_shown, rows_of_snapshot}
use Rattle.command_core.specs.Refusal.{fault}
use Rattle.agg_core.specs.Agg.{rows_on}
use Rattle.script_core.specs.Refusal.{table_refusal}
use Rattle.script_core.proofs.Showing.{rows-reported}
use Rattle.script_core.proofs.queries.rows_on.Goals as goal

-- The rows that hold at a point are some of the rows that are meant.
held-reported : {E D : Type 0} (rename : E → D) (point : ℤ) (meant : Result (List Row) E) (held : List Row)
    → map_ok (rows_on point) meant ≡ Ok held
    → (read : List Row) × (map_err rename meant ≡ Ok read) × (Rows held ≡ Rows (rows_on point read))
held-reported rename point (Ok read) held e =
    let same : held ≡ rows_on point read = cc in (read, refl, ap Rows same)
held-reported rename point (Err refusal) held e = absurd (cc)

pub returns-in-Ok : goal.returns-in-Ok
returns-in-Ok c =
    let snapshot = c.args.snapshot.now in
    let h = history snapshot in
    let n = number_shown snapshot in
    let read =
    held-reported (λ refused. fault c.args.number (table_refusal refused)) c.args.point (rows_of_snapshot h n c.args.table)
    c.in-Ok.rows c.in-Ok.ensures.given in
    (read.0, rows-reported c.args.number h n c.args.table snapshot.within ∙ read.1, read.2)
