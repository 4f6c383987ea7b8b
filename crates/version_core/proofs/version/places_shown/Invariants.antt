use Rattle.std.proofs.Common.{◌≡◌, ◌<◌, take, length, map, All}
use Rattle.std.specs.Prelude.{filter}
use Rattle.table_core.specs.Places.{at_places}
use Rattle.version_core.specs.Shown.{holds_where, shown}
use Rattle.version_core.specs.declared.version.Version.{Version}
use Rattle.version_core.proofs.version.places_shown.Given as goal

-- the list has the positions found among the first versions
abbrev pub invariant-loop-i : goal.invariant-loop-i
invariant-loop-i l = record {
  within : All (λ place. place < length l.versions) l.places.items;
  shown : at_places l.places.items (map (λ (v : Version). v.row) l.versions)
      ≡ filter (holds_where l.point) (shown l.n (take l.i l.versions));
}
