use Rattle.std.proofs.Common.{ap, length, arith}
use Rattle.version_core.specs.OpenVersions.{current}
use Rattle.version_core.specs.Rows.{parts_of_all}
use Rattle.version_core.specs.declared.change.RowsChange.TheVariants.{Portion}
use Rattle.version_core.proofs.FindingLemmas.{parts-listed}
use Rattle.version_core.proofs.versions.Versions.most_parts.Goals as goal

pub returns : goal.returns
returns c = λ change.
    let most = parts-listed (Portion change) c.self.inside.items c.self.inside.open_at c.self.invariant.found.all in
    let rows = ap (λ l. length (parts_of_all (Portion change) (current l))) c.self.view_is in
    omega (arith, most, rows, c.len.ensures)
