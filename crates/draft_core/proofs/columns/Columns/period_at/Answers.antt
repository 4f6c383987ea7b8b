use Rattle.std.proofs.Common.{◌<◌, ◌∙◌, ap, arith, get_or, length, map, sym}
use Rattle.draft_core.specs.Columns.{values_of_column}
use Rattle.draft_core.specs.Lent.{no_draft}
use Rattle.row_core.specs.declared.draft.Draft.{Draft}
use Rattle.draft_core.proofs.ColumnLemmas.{get_or-rows, length-rows}
use Rattle.draft_core.proofs.columns.Columns.period_at.Goals as goal

pub index-requires : goal.index-requires
index-requires c =
    let rows = length-rows 0 c.self.inside.periods.items (map values_of_column c.self.inside.values.items) in
    omega (arith, c.requires, rows, ap (λ a. length a.rows) c.self.view_is, c.self.inside.periods.ok.0)

pub returns : goal.returns
returns c =
    let periods = c.self.inside.periods.items in
    let columns = map values_of_column c.self.inside.values.items in
    let rows = length-rows 0 periods columns in
    let inside : c.args.place < length periods =
    omega (arith, c.requires, rows, ap (λ a. length a.rows) c.self.view_is) in
    c.index.ensures
    ∙ ap (λ (d : Draft). d.period)
    (sym (get_or-rows 0 periods columns c.args.place c.index.result.now no_draft inside)
    ∙ ap (λ a. get_or a.rows c.args.place no_draft) c.self.view_is)
