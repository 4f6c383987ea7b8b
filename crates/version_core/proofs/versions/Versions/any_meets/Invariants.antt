use Rattle.std.proofs.Common.{◌≡◌, false, take}
use Rattle.std.specs.List.{list_any}
use Rattle.version_core.specs.Collisions.{collide}
use Rattle.version_core.specs.Keys.{rows_left}
use Rattle.version_core.specs.OpenVersions.{current}
use Rattle.version_core.proofs.versions.Versions.any_meets.Given as goal

-- none of the first rows collides
abbrev pub invariant-loop-i : goal.invariant-loop-i
invariant-loop-i l =
    list_any (λ other. list_any (λ left. collide l.index.columns.items left other)
    (rows_left l.change (current l.self)))
    (take l.i l.new) ≡ false
