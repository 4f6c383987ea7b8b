use Rattle.std.proofs.Common.{subst, sym}
use Rattle.version_core.specs.Finding.{AreCandidates, AreFound}
use Rattle.version_core.proofs.IndexLemmas.{candidates-led}
use Rattle.version_core.specs.declared.change.RowsChange.TheVariants.{Portion}
use Rattle.version_core.proofs.versions.Versions.count_parts.Goals as goal

pub count_parts-requires-clause-places : goal.count_parts-requires-clause-places
count_parts-requires-clause-places c =
    let vs = c.self.inside.items in
    let change = Portion c.args.change.now in
    let places = c.as_slice.result.now in
    let indexes = c.deref-2.result.now in
    let found : AreFound vs places indexes =
    rw (c.as_slice.ensures, c.deref-2.ensures.value) c.self.invariant.found in
    subst (AreCandidates change vs) (sym c.candidates-places.ensures)
    (candidates-led change vs places indexes c.lookup_of-lookup.result found
    c.lookup_of-lookup.ensures.few c.lookup_of-lookup.ensures.lookup)
