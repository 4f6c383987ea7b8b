-- There is a part for each size up to the index.
use Rattle.std.proofs.Common.{◌≡◌, []}
use Rattle.dip_core.specs.Numbers.{parts_numbered}
use Rattle.dip_core.proofs.numbers.empty_parts.Given as goal

abbrev pub invariant-loop-size : goal.invariant-loop-size
invariant-loop-size l = l.parts.items ≡ parts_numbered [] [] 0 l.size-index
