use Rattle.std.proofs.Common.{List, ℕ, take}
use Rattle.version_core.specs.KeyIndex.{HasOnlyOpen, IsKeyIndex}
use Rattle.version_core.proofs.key_index.KeyIndex.extend.Given as goal

-- the first versions are in the index
abbrev pub invariant-loop-place : goal.invariant-loop-place
invariant-loop-place l = record {
  index : IsKeyIndex (take l.place l.versions) l.self;
  only : (gone : List ℕ) → HasOnlyOpen (take l.from l.versions) gone l.initial.self
      → HasOnlyOpen (take l.place l.versions) gone l.self;
}
