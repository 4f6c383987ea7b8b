use Rattle.std.proofs.Common.{◌∙◌, ap, map, length, arith}
use Rattle.std.proofs.lemmas.Result.{IfOk-weaker}
use Rattle.table_core.specs.Places.{at_places}
use Rattle.version_core.specs.declared.version.Version.{Version}
use Rattle.version_core.proofs.StoredLemmas.{length-versions_of, rows-versions_of}
use Rattle.version_core.proofs.stored.StoredVersions.at_places.Goals as goal

pub at_places-requires : goal.at_places-requires
at_places-requires c = λ k d inside.
    let same = length-versions_of c.self.inside.rows c.self.inside.system_periods.items c.self.invariant in
    let one = c.requires k d inside in
    omega (arith, one, same, c.self.invariant, ap length c.self.view_is)

pub returns : goal.returns
returns c =
    IfOk-weaker c.at_places.result _ _
    (λ rows e. e ∙ ap (at_places c.args.places.items)
    (rows-versions_of c.self.inside.rows c.self.inside.system_periods.items c.self.invariant
    ∙ ap (map (λ (v : Version). v.row)) c.self.view_is)) c.at_places.ensures
