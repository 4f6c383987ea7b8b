use Rattle.std.proofs.Common.{◌≡◌, take}
use Rattle.list_core.proofs.copy.copy_each.Given as goal

-- the first items are copied
abbrev pub invariant-loop-item : goal.invariant-loop-item
invariant-loop-item g l = l.copies.items ≡ take l.item-index l.items
