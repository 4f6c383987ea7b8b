use Rattle.std.proofs.Common.{arith}
use Rattle.std.proofs.lemmas.Int.{ints}
use Rattle.merge_core.proofs.CombineLemmas.{beyond_keep, beyond_drop}
use Rattle.merge_core.proofs.combining.steps_beyond.Goals as goal

pub returns-then-is_before : goal.returns-then-is_before
returns-then-is_before c =
    beyond_keep c.args.at c.args.steps.now c.in-Some.first c.in-Some.ensures c.requires.apart
    (omega (arith, ints, c.if-is_before.ensures))

pub returns-else-is_before : goal.returns-else-is_before
returns-else-is_before c =
    rw c.later_steps.ensures
    (beyond_drop c.args.at c.args.steps.now c.in-Some.first c.in-Some.ensures c.requires.apart c.requires.ends
    (omega (arith, ints, c.if-is_before.ensures)))
