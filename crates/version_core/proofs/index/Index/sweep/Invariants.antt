use Rattle.version_core.specs.Finding.{IsIndex}
use Rattle.version_core.proofs.index.Index.sweep.Given as goal

-- it stays an index of the versions
abbrev pub invariant-loop-bucket : goal.invariant-loop-bucket
invariant-loop-bucket l = IsIndex l.versions l.self
