use Rattle.std.proofs.Common.{◌≡◌, ◌∙◌, ap, arith, get_or, length, map, sym}
use Rattle.std.proofs.lemmas.Result.{IfOk-weaker}
use Rattle.draft_core.specs.Columns.{values_at, values_of_column}
use Rattle.draft_core.specs.Lent.{no_draft}
use Rattle.draft_core.proofs.ColumnLemmas.{length-rows, values-in_row}
use Rattle.draft_core.proofs.columns.Columns.values_at.Goals as goal

pub copy_values-requires : goal.copy_values-requires
copy_values-requires c =
    let rows = length-rows 0 c.self.inside.periods.items (map values_of_column c.self.inside.values.items) in
    let size = ap (λ a. length a.rows) c.self.view_is in
    rw c.deref.ensures.value
    (λ k d inside. let long = c.self.invariant k d inside in omega (arith, c.requires, rows, size, long))

pub returns : goal.returns
returns c =
    let columns = c.self.inside.values.items in
    let row = values-in_row c.self.inside.periods.items columns c.args.self.now c.args.place c.self.view_is c.requires in
    IfOk-weaker c.copy_values.result
    (λ values. values.items ≡ values_at (map values_of_column c.deref.result.now) c.args.place)
    (λ values. values.items ≡ (get_or c.args.self.now.rows c.args.place no_draft).values)
    (λ values e. e ∙ ap (λ l. values_at (map values_of_column l) c.args.place) c.deref.ensures.value ∙ sym row)
    c.copy_values.ensures
