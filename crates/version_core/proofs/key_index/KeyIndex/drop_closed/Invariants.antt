use Rattle.std.proofs.Common.{drop}
use Rattle.version_core.specs.KeyIndex.{HasOnlyOpen, IsKeyIndex}
use Rattle.version_core.proofs.key_index.KeyIndex.drop_closed.Given as goal

-- open versions stay
abbrev pub invariant-loop-place : goal.invariant-loop-place
invariant-loop-place l = record {
  index : IsKeyIndex l.versions l.self;
  only : HasOnlyOpen l.versions (drop l.place-index l.places) l.self;
}
