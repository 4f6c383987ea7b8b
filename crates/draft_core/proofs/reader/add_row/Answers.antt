use Rattle.std.proofs.Common.{◌≡◌, ◌∙◌, ◌++◌, ◌∷◌, [], ap, length, sym, true}
use Rattle.std.proofs.lemmas.Bool.{eqb-true}
use Rattle.std.proofs.lemmas.List.{nil_from_length}
use Rattle.std.proofs.lemmas.Result.{on_ok_weaker}
use Rattle.row_core.specs.Reading.{row_of}
use Rattle.draft_core.proofs.reader.add_row.Goals as goal
use Rattle.draft_core.proofs.reader.add_row.Goals.{then-is_empty+in_ok-kinds+in_ok-rows, else-is_empty}

pub returns-clause-ok : goal.returns-clause-ok
returns-clause-ok g c =
    let fields = g.L.Fields.fields c.args.fields in
    let columns = c.as_slice.ensures.columns in
    let none : c.is_empty.result ≡ true → length c.args.rows.now.rows ≡ 0 = λ yes.
    eqb-true (length c.args.rows.now.rows) 0 (sym c.is_empty.ensures ∙ yes) in
    let before : c.if-is_empty.rows.rows ≡ c.args.rows.now.rows = elim c.if-is_empty.branch [
      | then-is_empty+in_ok-kinds+in_ok-rows w ↦ ap (λ a. a.rows) (w.rows-is ∙ w.in_ok-rows.ensures)
          ∙ sym (nil_from_length c.args.rows.now.rows (none w.if-is_empty.true))
      | else-is_empty w ↦ ap (λ a. a.rows) w.rows-is
    ] in
    on_ok_weaker c.read.result
    (λ (row, is, more). (
      row,
      ap (λ l. row_of l fields) (sym columns) ∙ is,
      ap (λ a. a.rows) more ∙ ap (λ l. l ++ row ∷ []) before,
    )) c.read.ensures.ok
