use Rattle.std.proofs.Common.{ap, length, arith}
use Rattle.table_core.proofs.NumberedLemmas.{length-with_ids}
use Rattle.table_core.proofs.source.RowsWithIds.len.Goals as goal

pub returns : goal.returns
returns c =
    let same = length-with_ids c.self.inside.ids.items c.self.inside.drafts c.self.invariant in
    omega (arith, c.self.inside.ids.ok.0, same, ap length c.self.view_is)
