use Rattle.std.proofs.Common.{refl, arith}
use Rattle.std.proofs.lemmas.Int.{ints}
use Rattle.merge_core.proofs.WeightLemmas.{lone_weighed, lone_tallies}
use Rattle.merge_core.proofs.steps.step_of.Goals as goal

pub returns : goal.returns
returns c =
    record {
      period = refl;
      tally = lone_tallies c.args.item.now _ refl (omega (arith, ints)) (omega (arith, ints)) (omega (arith, ints));
      weighed =
          lone_weighed _ c.args.item.now.amount (omega (arith, ints)) (omega (arith, ints)) refl (omega (arith, ints));
    }
