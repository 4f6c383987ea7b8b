use Rattle.std.proofs.Common.{subst, sym}
use Rattle.version_core.specs.Finding.{AreCandidates, AreFound}
use Rattle.version_core.proofs.IndexLemmas.{candidates-led}
use Rattle.version_core.proofs.versions.Versions.find_rows.Goals as goal

pub plan_change-requires : goal.plan_change-requires
plan_change-requires c =
    let vs = c.self.inside.items in
    let change = c.args.change.now in
    let places = c.as_slice.result.now in
    let indexes = c.deref.result.now in
    let found : AreFound vs places indexes =
    rw (c.as_slice.ensures, c.deref.ensures.value) c.self.invariant.found in
    subst (AreCandidates change vs) (sym c.candidates-places.ensures)
    (candidates-led change vs places indexes c.args.lookup found c.requires.bucket c.requires.lookup)
