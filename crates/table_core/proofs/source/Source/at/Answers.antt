use Rattle.std.proofs.Common.{ap, length, arith}
use Rattle.std.specs.Arc.{arc_value}
use Rattle.table_core.specs.Source.{rows_from}
use Rattle.table_core.proofs.NumberedLemmas.{length-numbered}
use Rattle.table_core.proofs.source.Source.at.Goals as goal

pub numbered_at-requires : goal.numbered_at-requires
numbered_at-requires c =
    let lent = ap length c.deref.ensures in
    let all = length-numbered 0 (arc_value c.in-Numbered.drafts) in
    let whole = ap (λ source. length (rows_from source)) c.in-Numbered.is in
    omega (arith, c.requires, lent, all, whole)
