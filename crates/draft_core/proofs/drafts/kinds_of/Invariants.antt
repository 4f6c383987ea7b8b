use Rattle.std.proofs.Common.{◌≡◌, map, take}
use Rattle.row_core.specs.Value.{kind_of}
use Rattle.draft_core.proofs.drafts.kinds_of.Given as goal

-- the list has the first kinds
abbrev pub invariant-loop-value : goal.invariant-loop-value
invariant-loop-value l = l.kinds.items ≡ map kind_of (take l.value-index l.values)
