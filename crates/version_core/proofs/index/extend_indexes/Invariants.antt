use Rattle.std.proofs.Common.{◌≡◌, length, take}
use Rattle.std.specs.List.{AllWithin}
use Rattle.version_core.specs.Finding.{IsIndex}
use Rattle.version_core.proofs.index.extend_indexes.Given as goal

-- the first indexes have the new versions, the others are unchanged
abbrev pub invariant-loop-i : goal.invariant-loop-i
invariant-loop-i l = record {
  many : l.i-end ≡ length l.indexes.items;
  done : AllWithin (IsIndex l.versions) l.indexes.items 0 l.i;
  rest : AllWithin (IsIndex (take l.from l.versions)) l.indexes.items l.i (length l.indexes.items);
}
