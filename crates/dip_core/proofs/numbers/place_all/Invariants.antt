-- The items up to the index have numbers.
use Rattle.dip_core.proofs.PlacingLemmas.{Numbering}
use Rattle.dip_core.proofs.numbers.place_all.Given as goal

abbrev pub invariant-loop-item : goal.invariant-loop-item
invariant-loop-item l = Numbering l.sorted l.item-index l.numbers.items l.ends
