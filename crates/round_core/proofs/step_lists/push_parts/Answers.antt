use Rattle.std.proofs.Common.{◌<◌, length, subst, arith}
use Rattle.round_core.specs.ClassLists.{AddsSteps}
use Rattle.round_core.proofs.RunLemmas.{adds_next_part}
use Rattle.round_core.proofs.step_lists.push_parts.Goals as goal

pub loop-number-preserved : goal.loop-number-preserved
loop-number-preserved c =
    let inside : c.loop-number.number < length c.args.division.now = omega arith in
    adds_next_part c.args.class c.loop-number.number c.args.division.now c.args.lists.now.items
    c.loop-number.lists.items c.push_part.new.lists.items inside
    (subst (λ z. AddsSteps c.args.class z c.loop-number.lists.items c.push_part.new.lists.items) c.part.ensures
    c.in_ok-push_part.ensures)
    c.loop-number.invariant
