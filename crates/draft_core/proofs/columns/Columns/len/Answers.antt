use Rattle.std.proofs.Common.{ap, arith, length, map}
use Rattle.draft_core.specs.Columns.{values_of_column}
use Rattle.draft_core.proofs.ColumnLemmas.{length-rows}
use Rattle.draft_core.proofs.columns.Columns.len.Goals as goal

pub returns : goal.returns
returns c =
    let rows = length-rows 0 c.self.inside.periods.items (map values_of_column c.self.inside.values.items) in
    omega (arith, c.len.ensures, rows, ap (λ a. length a.rows) c.self.view_is, c.self.inside.periods.ok.0)
