use Rattle.std.proofs.Common.{refl}
use Rattle.join_core.proofs.AdvanceLemmas.{IsWithin-enough, IsWithin-greater}
use Rattle.join_core.proofs.FoundLemmas.{AreMade-few}
use Rattle.join_core.proofs.advances.turns_answered.Goals as goal

pub are_enough-requires-clause-lefts : goal.are_enough-requires-clause-lefts
are_enough-requires-clause-lefts g c =
    (AreMade-few c.args.left.now c.args.right.now c.args.advances c.requires.made c.requires.left_few
    c.requires.right_few).0

pub are_enough-requires-clause-rights : goal.are_enough-requires-clause-rights
are_enough-requires-clause-rights g c =
    (AreMade-few c.args.left.now c.args.right.now c.args.advances c.requires.made c.requires.left_few
    c.requires.right_few).1

pub returns-then-are_enough-clause-within : goal.returns-then-are_enough-clause-within
returns-then-are_enough-clause-within g c =
    IsWithin-enough c.args.left.now c.args.right.now c.args.advances c.requires.made (c.if-are_enough.ensures refl)

pub returns-clause-within : goal.returns-clause-within
returns-clause-within g c =
    IsWithin-greater c.args.left.now c.args.right.now c.args.advances c.requires.made c.in_ok-lefts.lefts
    c.in_ok-rights.rights c.max.result c.in_ok-lefts.ensures.least c.in_ok-rights.ensures.least c.max.ensures
