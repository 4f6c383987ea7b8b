use Rattle.std.proofs.Common.{arith}
use Rattle.std.proofs.lemmas.Int.{ints, clamps}
use Rattle.merge_core.proofs.CombineLemmas.{head_is}
use Rattle.merge_core.proofs.combining.head_from.Goals as goal

pub returns : goal.returns
returns c =
    head_is c.args.at c.args.steps.now c.in_ok-first.first _ c.in_ok-first.ensures c.requires.apart
    (omega (arith, ints, clamps)) (omega (arith, ints, clamps)) (λ t h k. omega (arith, ints, clamps))
    (omega (arith, ints)) c.rest_from.ensures.tally
