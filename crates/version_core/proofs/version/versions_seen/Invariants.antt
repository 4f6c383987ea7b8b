use Rattle.std.proofs.Common.{◌≡◌, ◌<◌, All, length, map, take}
use Rattle.table_core.specs.Places.{at_places}
use Rattle.version_core.specs.Shown.{versions_as_of}
use Rattle.version_core.specs.Stored.{versions_of}
use Rattle.version_core.specs.declared.version.Version.{Version}
use Rattle.version_core.proofs.version.versions_seen.Given as goal

-- the lists have the positions found among the first versions, and their system periods
abbrev pub invariant-loop-i : goal.invariant-loop-i
invariant-loop-i l = record {
  within : All (λ place. place < length l.versions) l.places.items;
  beside : length l.places.items ≡ length l.seen.items;
  seen : versions_of (at_places l.places.items (map (λ (v : Version). v.row) l.versions)) l.seen.items
      ≡ versions_as_of l.at l.m l.last (take l.i l.versions);
}
