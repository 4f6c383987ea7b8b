use Rattle.std.proofs.Common.{◌∙◌, ap, arith, length, sym}
use Rattle.std.proofs.lemmas.Result.{err_from_is_err_and}
use Rattle.draft_core.specs.RowsRead.{RowsRead}
use Rattle.command_core.specs.Lines.{fields_in, lines_in}
use Rattle.script_core.specs.Effects.{loaded_row, loaded_rows}
use Rattle.script_core.proofs.Loading.{behind-failed, behind-more}
use Rattle.script_core.proofs.rows.rows_of_records.Goals as goal

pub returns-in_err-reader : goal.returns-in_err-reader
returns-in_err-reader c =
    let columns = c.args.schema.now in
    let (count, same, sofar) = c.loop-place.invariant in
    let p = err_from_is_err_and c.from_residual.result c.from_residual.ensures.1 in
    rw (p.1, p.2)
    (behind-failed (loaded_row columns) c.args.number c.loop-place.place c.loop-place.line-iterator c.next.new.self
    (fields_in c.in-Some.line) c.loop-place.reader.rows
    (loaded_rows columns c.args.number (lines_in c.args.lines)) c.in_err-reader.field-0.0 c.in-Some.ensures.steps sofar
    (rw (sym same) c.in_err-reader.ensures))

pub loop-place-preserved : goal.loop-place-preserved
loop-place-preserved c =
    let columns = c.args.schema.now in
    let (count, same, sofar) = c.loop-place.invariant in
    let (row, read, more) = c.in_ok-reader.ensures in (
      omega (arith, count, ap length c.in-Some.ensures.steps),
      ap (λ (r : RowsRead). r.columns) more ∙ same,
      rw (ap (λ (r : RowsRead). r.rows) more)
          (sofar
          ∙ behind-more (loaded_row columns) c.args.number c.loop-place.place c.loop-place.line-iterator c.next.new.self
          (fields_in c.in-Some.line) c.loop-place.reader.rows row c.in-Some.ensures.steps
          (ap (λ l. loaded_row l (fields_in c.in-Some.line)) (sym same) ∙ read)),
    )
