use Rattle.std.proofs.Common.{arith}
use Rattle.std.proofs.lemmas.Int.{ints, clamps}
use Rattle.merge_core.proofs.CombineLemmas.{Some-tally}
use Rattle.merge_core.proofs.combining.add_tallies.Goals as goal

pub returns : goal.returns
returns c =
    Some-tally _ _ (omega arith) (omega (arith, ints, c.requires.sum)) (omega (arith, ints, clamps))
    (omega (arith, ints, clamps))
