use Rattle.std.proofs.Common.{inl, inr}
use Rattle.merge_core.proofs.HitLemmas.{joining_start, joining_left, joining_right, joining_end, joining_exact, joining_hit}
use Rattle.merge_core.proofs.join.merge_join_into.Goals as goal

pub returns-in-Err-clause-no_hit : goal.returns-in-Err-clause-no_hit
returns-in-Err-clause-no_hit g c =
    λ none. absurd (none c.in-Err.ensures.hit.0
    (joining_hit g.T.FromHit.from_hit c.args.left c.args.right c.loop-x.left c.loop-x.right c.in-Some.x
    c.in-Some-peek.y c.args.found.now.items c.loop-x.found.items c.loop-x.advances c.in-Err.ensures.hit.0
    c.in-Some.ensures.next c.in-Some-peek.ensures.next c.in-Err.ensures.hit.1 c.loop-x.invariant))

pub loop-x-preserved : goal.loop-x-preserved
loop-x-preserved g c =
    elim c.pass_first.ensures [
      | inl (first, passed, stays) ↦
          rw (passed, stays)
          (joining_left g.T.FromHit.from_hit c.args.left c.args.right c.in-Some.x c.loop-x.left c.in-Some-peek.y
          c.loop-x.right c.args.found.now.items c.loop-x.found.items c.push_hit.new.found.items c.loop-x.advances
          c.in-Some.ensures.next c.in-Some-peek.ensures.next first c.in_default-push_hit.ensures.ok c.loop-x.invariant)
      | inr (later, stays, passed) ↦
          rw (passed, stays)
          (joining_right g.T.FromHit.from_hit c.args.left c.args.right c.in-Some.x c.loop-x.left c.in-Some-peek.y
          c.loop-x.right c.args.found.now.items c.loop-x.found.items c.push_hit.new.found.items c.loop-x.advances
          c.in-Some.ensures.next c.in-Some-peek.ensures.next later c.in_default-push_hit.ensures.ok c.loop-x.invariant)
    ]

pub returns-in_default-peek-clause-found : goal.returns-in_default-peek-clause-found
returns-in_default-peek-clause-found g c =
    joining_end _ _ _ _ _ _ _ _ (inr c.in_default-peek.ensures.next) c.loop-x.invariant

pub returns-in_default-clause-found : goal.returns-in_default-clause-found
returns-in_default-clause-found g c =
    joining_end _ _ _ _ _ _ _ _ (inl c.in_default.ensures.next) c.loop-x.invariant

pub returns-in_default-peek-clause-exact : goal.returns-in_default-peek-clause-exact
returns-in_default-peek-clause-exact g c =
    joining_exact _ _ _ _ _ _ _ _ (inr c.in_default-peek.ensures.next) c.loop-x.invariant

pub returns-in_default-clause-exact : goal.returns-in_default-clause-exact
returns-in_default-clause-exact g c =
    joining_exact _ _ _ _ _ _ _ _ (inl c.in_default.ensures.next) c.loop-x.invariant

pub loop-x-init : goal.loop-x-init
loop-x-init g c =
    joining_start g.T.FromHit.from_hit c.args.left c.args.right c.args.found.now.items c.len.ensures.chain
    c.len-2.ensures.chain
