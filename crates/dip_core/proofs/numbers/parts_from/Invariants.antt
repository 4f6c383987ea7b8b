-- The items up to the index are in their parts.
use Rattle.std.proofs.Common.{◌≡◌, length, take}
use Rattle.dip_core.specs.Numbers.{parts_numbered}
use Rattle.dip_core.proofs.numbers.parts_from.Given as goal

abbrev pub invariant-loop-i : goal.invariant-loop-i
invariant-loop-i l = l.parts.items ≡ parts_numbered (take l.i l.items) (take l.i l.numbers) l.from (length l.sizes)
