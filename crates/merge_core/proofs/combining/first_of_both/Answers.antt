use Rattle.std.proofs.Common.{refl, arith}
use Rattle.std.proofs.lemmas.Grind.{common_steps}
use Rattle.merge_core.proofs.CombineLemmas.{starts_together}
use Rattle.merge_core.proofs.combining.first_of_both.Goals as goal

pub returns-then-is_before : goal.returns-then-is_before
returns-then-is_before c = grind (arith, common_steps)

pub returns-then-is_before-2 : goal.returns-then-is_before-2
returns-then-is_before-2 c = grind (arith, common_steps)

pub returns : goal.returns
returns c =
    starts_together c.args.x.now c.args.y.now _ c.if-is_before.ensures c.if-is_before-2.ensures refl
    c.earlier-to-2.ensures c.add_tallies.ensures
