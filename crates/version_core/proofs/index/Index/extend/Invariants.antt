use Rattle.std.proofs.Common.{take}
use Rattle.version_core.specs.Finding.{IsIndex}
use Rattle.version_core.proofs.index.Index.extend.Given as goal

-- the first versions are in the index
abbrev pub invariant-loop-place : goal.invariant-loop-place
invariant-loop-place l = IsIndex (take l.place l.versions) l.self
