-- The rows before the index are items.
use Rattle.std.proofs.Common.{◌≡◌, take}
use Rattle.match_core.specs.Items.{items_of}
use Rattle.match_core.proofs.row_items.items.Given as goal

abbrev pub invariant-loop-i : goal.invariant-loop-i
invariant-loop-i l = l.items.items ≡ items_of (take l.i l.rows)
