-- the right keys before the index have numbers
use Rattle.match_core.proofs.NumberLemmas.{Numbering}
use Rattle.match_core.proofs.numbering.numbers_of.Given as goal

abbrev pub invariant-loop-right : goal.invariant-loop-right
invariant-loop-right g l = Numbering g.V.Ord.cmp l.lefts l.rights l.right l.left l.numbers.items
