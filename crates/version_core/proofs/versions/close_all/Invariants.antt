use Rattle.std.proofs.Common.{◌≡◌, length, take}
use Rattle.std.specs.Prelude.{fold}
use Rattle.version_core.specs.OpenVersions.{closed_at}
use Rattle.version_core.proofs.versions.close_all.Given as goal

-- the versions at the first positions are closed
abbrev pub invariant-loop-place : goal.invariant-loop-place
invariant-loop-place l = record {
  closed : l.versions ≡ fold (closed_at l.commit) l.fn.versions (take l.place-index l.places);
  same : length l.versions ≡ length l.fn.versions;
}
