use Rattle.std.proofs.Common.{◌≡◌, ◌+◌, ◌^◌, ◌<◌, sym, arith, take, ap, ◌∙◌}
use Rattle.join_core.specs.PairValues.{turns_in}
use Rattle.join_core.proofs.LoopLemmas.{turns_in-more, turns_in-more_le}
use Rattle.join_core.proofs.rows.turns_of.Goals as goal

pub overflow_add-turns : goal.overflow_add-turns
overflow_add-turns c =
    let most = turns_in-more_le c.args.outs.now c.loop-i.i c.in-Some.out.now (sym c.in-Some.ensures) in
    let so_far : c.loop-i.turns ≡ turns_in (take c.loop-i.i c.args.outs.now) = c.loop-i.invariant in
    let few : turns_in c.args.outs.now < 2 ^ 64 = c.requires in
    omega (arith, most, so_far, few)

pub loop-i-preserved : goal.loop-i-preserved
loop-i-preserved c =
    let so_far : c.loop-i.turns ≡ turns_in (take c.loop-i.i c.args.outs.now) = c.loop-i.invariant in
    ap (λ n. n + c.in-Some.out.now.turns) so_far
    ∙ sym (turns_in-more c.args.outs.now c.loop-i.i c.in-Some.out.now (sym c.in-Some.ensures))
