use Rattle.std.proofs.Common.{arith}
use Rattle.std.proofs.lemmas.Int.{ints, clamps}
use Rattle.merge_core.proofs.CombineLemmas.{starts_none, starts_head}
use Rattle.merge_core.proofs.combining.start_of.Goals as goal

pub returns-in_default : goal.returns-in_default
returns-in_default c = (
  starts_none c.in_ok-y.y.period.from c.args.lefts.now c.in_default.ensures,
  starts_head c.in_ok-y.y.period.from c.args.rights.now c.in_ok-y.y c.in_ok-y.ensures c.requires.right_apart
      (omega (arith, ints)),
)

pub returns-in_default-first_step : goal.returns-in_default-first_step
returns-in_default-first_step c = (
  starts_head c.in-Some.x.period.from c.args.lefts.now c.in-Some.x c.in-Some.ensures c.requires.left_apart
      (omega (arith, ints)),
  starts_none c.in-Some.x.period.from c.args.rights.now c.in_default-first_step.ensures,
)

pub returns : goal.returns
returns c = (
  starts_head c.earlier.result c.args.lefts.now c.in-Some.x c.in-Some.ensures c.requires.left_apart
      (omega (arith, ints, clamps)),
  starts_head c.earlier.result c.args.rights.now c.in-Some-first_step.y c.in-Some-first_step.ensures
      c.requires.right_apart (omega (arith, ints, clamps)),
)
