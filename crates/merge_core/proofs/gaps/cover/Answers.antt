use Rattle.std.proofs.Common.{arith}
use Rattle.std.proofs.lemmas.Int.{ints, clamps}
use Rattle.merge_core.proofs.ErrLemmas.{on_err}
use Rattle.merge_core.proofs.SweepLemmas.{covers_unmatched, covers_matched, gap_found}
use Rattle.merge_core.proofs.gaps.cover.Goals as goal

pub returns-then-y-x-clause-ok : goal.returns-then-y-x-clause-ok
returns-then-y-x-clause-ok c = covers_unmatched _ _ _ _ _ (omega (arith, ints)) c.if-y-x.true

pub returns-clause-ok : goal.returns-clause-ok
returns-clause-ok c =
    covers_matched c.args.x.now c.args.y.now c.args.at _ _ _ c.args.gaps.now.items c.push_gap.new.gaps.items
    (omega (arith, ints)) (omega (arith, ints)) c.if-y-x.false c.requires
    (omega (arith, ints, clamps)) (omega (arith, ints, clamps)) (λ t h k. omega (arith, ints, clamps))
    c.in_ok-push_gap.ensures.ok

pub returns-in_err-push_gap-clause-gap : goal.returns-in_err-push_gap-clause-gap
returns-in_err-push_gap-clause-gap c =
    on_err _ c.from_residual.result
    (gap_found c.args.x.now c.args.y.now c.args.at _ _ (omega (arith, ints)) (omega (arith, ints)) c.if-y-x.false
    c.requires c.in_err-push_gap.ensures.gap.0 c.in_err-push_gap.ensures.gap.1)
