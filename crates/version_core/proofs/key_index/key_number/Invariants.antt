use Rattle.std.proofs.Common.{◌≡◌, take}
use Rattle.draft_core.specs.Lent.{lent_draft}
use Rattle.version_core.specs.KeyIndex.{key_number}
use Rattle.version_core.proofs.key_index.key_number.Given as goal

-- the hash of the values in the first columns
abbrev pub invariant-loop-column : goal.invariant-loop-column
invariant-loop-column l = l.number ≡ key_number (take l.column-index l.key) (lent_draft l.row).values
