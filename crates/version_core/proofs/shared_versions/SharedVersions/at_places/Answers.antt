use Rattle.std.proofs.Common.{◌<◌, ◌∙◌, All, ap, length, map, subst, sym}
use Rattle.std.proofs.lemmas.List.{length-map}
use Rattle.table_core.proofs.PlaceLemmas.{length-at_places}
use Rattle.version_core.specs.declared.version.Version.{Version}
use Rattle.version_core.proofs.shared_versions.SharedVersions.at_places.Goals as goal

pub invariant_of-result : goal.invariant_of-result
invariant_of-result c =
    let vs = c.args.versions.now in
    let rows = map (λ (v : Version). v.row) vs in
    let inside = subst (λ n. All (λ p. p < n) c.args.places.items) (sym (length-map vs (λ (v : Version). v.row)))
    c.requires.within in
    ap length c.in_ok-at_places.ensures ∙ length-at_places c.args.places.items rows inside ∙ c.requires.beside
