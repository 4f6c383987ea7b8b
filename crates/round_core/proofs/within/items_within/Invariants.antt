-- The items before the index are clipped.
use Rattle.std.proofs.Common.{take}
use Rattle.round_core.specs.Spans.{AreWithin}
use Rattle.round_core.proofs.within.items_within.Given as goal

abbrev pub invariant-loop-item : goal.invariant-loop-item
invariant-loop-item l = AreWithin l.span (take l.item-index l.items) l.cut.items
