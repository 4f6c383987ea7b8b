use Rattle.std.proofs.Common.{arith, ◌≤ℤ◌, ◌<ℤ◌}
use Rattle.std.proofs.lemmas.Int.{ints}
use Rattle.merge_core.specs.Sweep.{EndLater}
use Rattle.merge_core.proofs.ErrLemmas.{on_err}
use Rattle.merge_core.proofs.GapLemmas.{swept_next, stop_end, stop_last, stopped_final, IsStopped, swept_gap, stopped_gap, none_left, all_later, start_later, last_ends_later, Extends-more}
use Rattle.merge_core.proofs.gaps.gaps_of.Goals as goal
use Rattle.merge_core.proofs.gaps.gaps_of.Goals.{in-Some+then-follows, in-Some+else-follows+in_ok-at+then-ends_before, in_default, After-push_gap}

pub loop-y-preserved : goal.loop-y-preserved
loop-y-preserved c =
    let over : c.in-Some.y.period.to ≤ℤ c.args.x.now.period.to = omega (arith, ints, c.if-ends_before.ensures) in
    rw c.advance.ensures
    (swept_next c.args.x.now c.args.right.now c.in-Some.y c.loop-y.right _ _ _ _ c.args.gaps.now.items
    c.loop-y.gaps.items c.cover.new.gaps.items c.loop-y.passed (omega (arith, ints)) (omega (arith, ints))
    c.in-Some.ensures.next c.in-Some.ensures.chain over c.in_ok-at.ensures.ok c.loop-y.invariant)

-- however the loop ended, only the gap up to the end of `x` is left
stopped : (c : After-push_gap)
    → IsStopped c.args.x.now c.args.right.now c.match-peek.at c.args.gaps.now.items c.match-peek.gaps.items
stopped c =
    elim c.match-peek.branch [
      | in-Some+then-follows w ↦
          rw (w.gaps-is, w.at-is)
          (let late : c.args.x.now.period.to ≤ℤ w.in-Some.y.period.from = omega (arith, ints, w.if-follows.ensures) in
          stop_end c.args.x.now c.args.right.now c.loop-y.right _ _ _ _
          (all_later c.args.x.now w.in-Some.y c.loop-y.right w.in-Some.ensures.next w.in-Some.ensures.chain late)
          c.loop-y.invariant)
      | in-Some+else-follows+in_ok-at+then-ends_before w ↦
          rw (w.gaps-is, w.at-is)
          (let beyond : c.args.x.now.period.to ≤ℤ w.in-Some.y.period.to =
          omega (arith, ints, w.if-ends_before.ensures) in
          stop_last c.args.x.now c.args.right.now w.in-Some.y c.loop-y.right _ _ _ _ _ _ _ _
          (omega (arith, ints)) (omega (arith, ints)) w.in-Some.ensures.next w.in-Some.ensures.chain beyond
          w.in_ok-at.ensures.ok c.loop-y.invariant)
      | in_default w ↦
          rw (w.gaps-is, w.at-is)
          (stop_end c.args.x.now c.args.right.now c.loop-y.right _ _ _ _
          (none_left c.args.x.now c.loop-y.right w.in_default.ensures.next) c.loop-y.invariant)
    ]

-- and each remaining right item ends after `x`
left_over : (c : After-push_gap) → EndLater c.args.x.now.period.to c.loop-y.right
left_over c =
    elim c.match-peek.branch [
      | in-Some+then-follows w ↦
          (let late : c.args.x.now.period.to ≤ℤ w.in-Some.y.period.from = omega (arith, ints, w.if-follows.ensures) in
          start_later c.args.x.now.period.to c.loop-y.right
          (all_later c.args.x.now w.in-Some.y c.loop-y.right w.in-Some.ensures.next w.in-Some.ensures.chain late))
      | in-Some+else-follows+in_ok-at+then-ends_before w ↦
          (let beyond : c.args.x.now.period.to <ℤ w.in-Some.y.period.to =
          omega (arith, ints, w.if-ends_before.ensures) in
          last_ends_later c.args.x.now w.in-Some.y c.loop-y.right w.in-Some.ensures.next w.in-Some.ensures.chain
          beyond)
      | in_default w ↦
          start_later c.args.x.now.period.to c.loop-y.right
          (none_left c.args.x.now c.loop-y.right w.in_default.ensures.next)
    ]

pub returns-clause-leaves : goal.returns-clause-leaves
returns-clause-leaves c = left_over (goal.at.returns-clause-leaves c).After-push_gap

pub returns-in_err-push_gap-clause-keeps : goal.returns-in_err-push_gap-clause-keeps
returns-in_err-push_gap-clause-keeps c =
    rw c.in_err-push_gap.ensures.err (stopped (goal.at.returns-in_err-push_gap-clause-keeps c).After-push_gap).keeps

pub returns-clause-gaps : goal.returns-clause-gaps
returns-clause-gaps c =
    stopped_final _ _ _ _ _ _ _ _ (omega (arith, ints)) (omega (arith, ints))
    (stopped (goal.at.returns-clause-gaps c).After-push_gap) c.in_ok-push_gap.ensures.ok

pub returns-clause-keeps : goal.returns-clause-keeps
returns-clause-keeps c =
    Extends-more _ _ _ c.in_ok-push_gap.ensures.ok.added c.in_ok-push_gap.ensures.ok.split
    (stopped (goal.at.returns-clause-keeps c).After-push_gap).keeps

pub returns-in_err-at-clause-gap : goal.returns-in_err-at-clause-gap
returns-in_err-at-clause-gap c =
    on_err _ c.from_residual.result (
      c.in_err-at.ensures.gap.gap,
      swept_gap c.args.x.now c.args.right.now c.in-Some.y c.loop-y.right _ _ c.args.gaps.now.items
          c.loop-y.gaps.items c.loop-y.passed (omega (arith, ints)) c.in-Some.ensures.next c.in-Some.ensures.chain
          c.in_err-at.ensures.gap c.loop-y.invariant,
    )

pub returns-in_err-push_gap-clause-gap : goal.returns-in_err-push_gap-clause-gap
returns-in_err-push_gap-clause-gap c =
    on_err _ c.from_residual-in_err-push_gap.result (
      c.in_err-push_gap.ensures.gap.0,
      stopped_gap _ _ _ _ _ _ _ (omega (arith, ints)) (omega (arith, ints))
          (stopped (goal.at.returns-in_err-push_gap-clause-gap c).After-push_gap)
          c.in_err-push_gap.ensures.gap.0 c.in_err-push_gap.ensures.gap.1,
    )
