use Rattle.std.proofs.Common.{◌∙◌, ap, arith, length, sym}
use Rattle.std.specs.Prelude.{slice_get}
use Rattle.table_core.specs.Lent.{lent_row}
use Rattle.version_core.proofs.StoredLemmas.{length-versions_of, slice_get-versions_of}
use Rattle.version_core.proofs.shared_versions.SharedVersions.at.Goals as goal

pub at-requires : goal.at-requires
at-requires c =
    let same = length-versions_of c.self.inside.rows c.self.inside.system_periods.items c.self.invariant in
    omega (arith, c.requires, same, ap length c.self.view_is, c.self.invariant)

pub index-requires : goal.index-requires
index-requires c =
    let same = length-versions_of c.self.inside.rows c.self.inside.system_periods.items c.self.invariant in
    omega (arith, c.requires, same, ap length c.self.view_is, c.self.inside.system_periods.ok.0)

pub returns : goal.returns
returns c =
    sym (slice_get-versions_of c.self.inside.rows c.self.inside.system_periods.items c.args.place (lent_row c.at.result)
    c.index.result.now c.self.invariant c.at.ensures c.index.ensures
    ∙ ap (λ vs. slice_get vs c.args.place) c.self.view_is)
