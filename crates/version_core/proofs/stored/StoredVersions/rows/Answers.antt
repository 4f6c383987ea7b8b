use Rattle.std.proofs.Common.{◌∙◌, ap, map}
use Rattle.std.proofs.lemmas.Result.{IfOk-weaker}
use Rattle.version_core.specs.declared.version.Version.{Version}
use Rattle.version_core.proofs.StoredLemmas.{rows-versions_of}
use Rattle.version_core.proofs.stored.StoredVersions.rows.Goals as goal

pub returns : goal.returns
returns c =
    IfOk-weaker c.all.result _ _
    (λ rows e. e ∙ rows-versions_of c.self.inside.rows c.self.inside.system_periods.items c.self.invariant
    ∙ ap (map (λ (v : Version). v.row)) c.self.view_is) c.all.ensures
