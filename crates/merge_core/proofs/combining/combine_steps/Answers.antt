use Rattle.std.proofs.Common.{arith}
use Rattle.std.proofs.lemmas.Int.{ints}
use Rattle.merge_core.proofs.CombineLemmas.{combining_start, combining_more, combining_end, starts_same, ends_same}
use Rattle.merge_core.proofs.combining.combine_steps.Goals as goal

pub loop-step-init : goal.loop-step-init
loop-step-init c =
    rw c.in_ok-steps.ensures.items
    (combining_start c.args.one.now c.args.other.now _ c.requires.one_apart c.requires.other_apart c.requires.can_add
    (starts_same c.args.one.now _ _ (omega (arith, ints)) c.in-Some.ensures.0)
    (starts_same c.args.other.now _ _ (omega (arith, ints)) c.in-Some.ensures.1))

pub steps_beyond-lefts-requires-clause-ends : goal.steps_beyond-lefts-requires-clause-ends
steps_beyond-lefts-requires-clause-ends c =
    ends_same c.loop-step.lefts.now _ _ (omega (arith, ints)) c.in-Some-next_step.ensures.left_ends

pub steps_beyond-rights-requires-clause-ends : goal.steps_beyond-rights-requires-clause-ends
steps_beyond-rights-requires-clause-ends c =
    ends_same c.loop-step.rights.now _ _ (omega (arith, ints)) c.in-Some-next_step.ensures.right_ends

pub loop-step-preserved : goal.loop-step-preserved
loop-step-preserved c =
    combining_more c.args.one.now c.args.other.now c.loop-step.lefts.now c.loop-step.rights.now _ _ _ _
    c.in-Some-next_step.step c.loop-step.steps.items _ (omega (arith, ints)) c.in_ok-push.ensures.items
    c.in-Some-next_step.ensures c.steps_beyond-lefts.ensures c.steps_beyond-rights.ensures c.loop-step.invariant

pub returns : goal.returns
returns c =
    combining_end c.args.one.now c.args.other.now c.loop-step.lefts.now c.loop-step.rights.now c.loop-step.at
    c.loop-step.steps.items c.in_default-next_step.ensures.0 c.in_default-next_step.ensures.1 c.loop-step.invariant

pub next_step-requires : goal.next_step-requires
next_step-requires c =
    let was = c.loop-step.invariant in
    record {
      left_apart = was.left_apart;
      right_apart = was.right_apart;
      left_beyond = was.left_beyond;
      right_beyond = was.right_beyond;
      can_add = was.can_add;
    }
