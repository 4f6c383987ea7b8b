use Rattle.std.proofs.Common.{arith, ◌+◌, ◌≡◌}
use Rattle.merge_core.proofs.GapLemmas.{gapped_more, gapped_end, gapped_exact, gapped_gap, passed_both, unended_gap, unended_gaps}
use Rattle.merge_core.proofs.gaps.merge_gaps.Goals as goal

pub loop-x-preserved : goal.loop-x-preserved
loop-x-preserved c =
    let ended = c.pass_ended-ended.result in
    let there = c.pass_ended-ended.new.self in
    let e : c.loop-x.advances + (ended + c.in-Ok.passed + 1) ≡ c.loop-x.advances + (ended + c.in-Ok.passed) + 1 =
    omega arith in
    rw (c.advance.ensures, e)
    (gapped_more c.args.left c.args.right c.in-Some.x c.loop-x.left c.loop-x.right c.gaps_of.new.right
    c.args.gaps.now.items c.loop-x.gaps.items c.gaps_of.new.gaps.items c.loop-x.advances
    (ended + c.in-Ok.passed) c.in-Some.ensures.next c.in-Some.ensures.chain
    (unended_gaps c.in-Some.x c.loop-x.right there ended c.loop-x.gaps.items c.gaps_of.new.gaps.items
    c.pass_ended-ended.ensures c.in-Ok.ensures.gaps)
    (passed_both c.in-Some.x c.loop-x.right there c.gaps_of.new.right ended c.in-Ok.passed c.pass_ended-ended.ensures
    c.in-Ok.ensures.passes)
    c.in-Ok.ensures.leaves c.loop-x.invariant)

pub returns-clause-gaps : goal.returns-clause-gaps
returns-clause-gaps c = gapped_end _ _ _ _ _ _ _ c.in_default.ensures.next c.loop-x.invariant

pub returns-clause-exact : goal.returns-clause-exact
returns-clause-exact c = gapped_exact _ _ _ _ _ _ _ c.in_default.ensures.next c.loop-x.invariant

pub returns-in-Err-clause-no_gap : goal.returns-in-Err-clause-no_gap
returns-in-Err-clause-no_gap c =
    λ none. absurd (none c.in-Err.ensures.gap.0
    (gapped_gap c.args.left c.args.right c.in-Some.x c.loop-x.left c.loop-x.right c.args.gaps.now.items
    c.loop-x.gaps.items c.loop-x.advances c.in-Some.ensures.next c.loop-x.invariant c.in-Err.ensures.gap.0
    (unended_gap c.in-Some.x c.loop-x.right c.pass_ended-ended.new.self c.pass_ended-ended.result
    c.pass_ended-ended.ensures c.in-Err.ensures.gap.0 c.in-Err.ensures.gap.1)))
