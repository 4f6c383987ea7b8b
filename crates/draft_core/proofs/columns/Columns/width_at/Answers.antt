use Rattle.std.proofs.Common.{ap, arith, length}
use Rattle.draft_core.proofs.ColumnLemmas.{values-in_row}
use Rattle.draft_core.proofs.KindLemmas.{length-values}
use Rattle.draft_core.proofs.columns.Columns.width_at.Goals as goal

pub returns : goal.returns
returns c =
    let columns = c.self.inside.values.items in
    let row = ap length
    (values-in_row c.self.inside.periods.items columns c.args.self.now c.args.place c.self.view_is c.requires) in
    omega (arith, c.len.ensures, row, length-values columns c.args.place, c.self.inside.values.ok.0)
