use Rattle.std.proofs.Common.{◌∙◌, ap, arith, length, set}
use Rattle.version_core.specs.OpenVersions.{closed_at}
use Rattle.version_core.specs.Stored.{versions_of}
use Rattle.version_core.proofs.StoredLemmas.{closed_at-versions_of, length-closed, length-versions_of}
use Rattle.version_core.proofs.stored.StoredVersions.close.Goals as goal

pub index_mut-requires : goal.index_mut-requires
index_mut-requires c =
    let same = length-versions_of c.self.inside.rows c.self.inside.system_periods.items c.self.invariant in
    omega (arith, c.requires, c.self.inside.system_periods.ok.0, same, ap length c.self.view_is)

pub returns-clause-closed : goal.returns-clause-closed
returns-clause-closed c =
    let same = length-versions_of c.self.inside.rows c.self.inside.system_periods.items c.self.invariant in
    ap (λ system_period. versions_of c.self.inside.rows
    (set c.self.inside.system_periods.items c.args.place system_period)) c.close.ensures
    ∙ closed_at-versions_of c.args.commit c.self.inside.rows c.self.inside.system_periods.items c.args.place
    c.index_mut.result.now c.self.invariant (omega (arith, c.requires, same, ap length c.self.view_is))
    c.index_mut.ensures.value
    ∙ ap (λ vs. closed_at c.args.commit vs c.args.place) c.self.view_is

pub returns-clause-len : goal.returns-clause-len
returns-clause-len c =
    ap (λ system_period. length (versions_of c.self.inside.rows
    (set c.self.inside.system_periods.items c.args.place system_period)))
    c.close.ensures
    ∙ length-closed c.args.commit c.self.inside.rows c.self.inside.system_periods.items c.args.place
    c.index_mut.result.now.from c.self.invariant ∙ ap length c.self.view_is
