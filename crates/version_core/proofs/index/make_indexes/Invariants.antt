use Rattle.std.proofs.Common.{◌≡◌, length, take}
use Rattle.std.specs.Prelude.{All}
use Rattle.version_core.specs.Finding.{IsIndex}
use Rattle.version_core.proofs.index.make_indexes.Given as goal

-- all are indexes of the versions
abbrev pub invariant-loop-column : goal.invariant-loop-column
invariant-loop-column l = record {
  indexes : All (IsIndex l.versions) l.indexes.items;
  kept : take (length l.initial.indexes.items) l.indexes.items ≡ l.initial.indexes.items;
}
