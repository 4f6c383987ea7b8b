use Rattle.std.specs.Prelude.{All}
use Rattle.version_core.specs.Finding.{IsIndex}
use Rattle.version_core.proofs.index.sweep_indexes.Given as goal

-- all stay indexes of the versions
abbrev pub invariant-loop-i : goal.invariant-loop-i
invariant-loop-i l = All (IsIndex l.versions) l.indexes.items
