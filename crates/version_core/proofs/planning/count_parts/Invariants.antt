use Rattle.std.proofs.Common.{◌≡◌, ◌≤◌, ◌*◌, take, length}
use Rattle.std.specs.Prelude.{filter}
use Rattle.version_core.specs.Finding.{passes}
use Rattle.version_core.specs.OpenVersions.{is_taken}
use Rattle.version_core.specs.Plans.{parts_at}
use Rattle.version_core.specs.declared.change.RowsChange.TheVariants.{Portion}
use Rattle.version_core.proofs.planning.count_parts.Given as goal

-- the parts of the rows removed at the first positions, at most three for each
abbrev pub invariant-loop-place : goal.invariant-loop-place
invariant-loop-place l = record {
  counted : l.count ≡ length
      (parts_at (Portion l.change) l.versions
      (filter (passes l.versions (is_taken (Portion l.change))) (take l.place-index l.places)));
  few : l.count ≤ 3 * l.place-index;
}
