use Rattle.std.proofs.Common.{inl, inr, arith, ◌≤ℤ◌}
use Rattle.std.proofs.lemmas.Int.{ints}
use Rattle.merge_core.proofs.MeetLemmas.{meeting_start, meeting_left, meeting_right, meeting_end}
use Rattle.merge_core.proofs.meets.meets_of.Goals as goal
use Rattle.merge_core.proofs.meets.meets_of.Goals.{in-Some+in_default-first_gap, in_default}

pub returns : goal.returns
returns c =
    elim c.match-first_gap.branch [
      | in-Some+in_default-first_gap w ↦
          meeting_end c.args.one.now c.args.other.now c.loop-x.lefts.now c.loop-x.rights.now c.loop-x.gaps.items
          (inr w.in_default-first_gap.ensures) c.loop-x.invariant
      | in_default w ↦
          meeting_end c.args.one.now c.args.other.now c.loop-x.lefts.now c.loop-x.rights.now c.loop-x.gaps.items
          (inl w.in_default.ensures) c.loop-x.invariant
    ]

pub loop-x-init : goal.loop-x-init
loop-x-init c =
    rw c.new-gaps.ensures.items
    (meeting_start c.args.one.now c.args.other.now c.requires.one c.requires.other)

pub loop-x-preserved-then-ends_first : goal.loop-x-preserved-then-ends_first
loop-x-preserved-then-ends_first c =
    let first : c.in-Some.x.period.to ≤ℤ c.in-Some-first_gap.y.period.to =
    omega (arith, ints, c.if-ends_first.ensures) in
    rw c.later_gaps-lefts.ensures
    (meeting_left c.args.one.now c.args.other.now c.in-Some.x c.loop-x.lefts.now c.in-Some-first_gap.y
    c.loop-x.rights.now c.loop-x.gaps.items c.push_meet.new.gaps.items c.in-Some.ensures
    c.in-Some-first_gap.ensures first c.in_ok-push_meet.ensures c.loop-x.invariant)

pub loop-x-preserved : goal.loop-x-preserved
loop-x-preserved c =
    let first : c.in-Some-first_gap.y.period.to ≤ℤ c.in-Some.x.period.to =
    omega (arith, ints, c.if-ends_first.ensures) in
    rw c.later_gaps-rights.ensures
    (meeting_right c.args.one.now c.args.other.now c.in-Some.x c.loop-x.lefts.now c.in-Some-first_gap.y
    c.loop-x.rights.now c.loop-x.gaps.items c.push_meet.new.gaps.items c.in-Some.ensures
    c.in-Some-first_gap.ensures first c.in_ok-push_meet.ensures c.loop-x.invariant)
