use Rattle.std.proofs.Common.{ap, arith, length}
use Rattle.version_core.proofs.StoredLemmas.{length-versions_of}
use Rattle.version_core.proofs.shared_versions.SharedVersions.len.Goals as goal

pub returns : goal.returns
returns c =
    let same = length-versions_of c.self.inside.rows c.self.inside.system_periods.items c.self.invariant in
    omega (arith, c.len.ensures, same, ap length c.self.view_is, c.self.inside.system_periods.ok.0)
