use Rattle.std.proofs.Common.{refl}
use Rattle.merge_core.proofs.ErrLemmas.{on_err}
use Rattle.merge_core.proofs.SweepLemmas.{adds_between}
use Rattle.merge_core.proofs.gaps.push_gap.Goals as goal

pub returns-in_ok-push-clause-ok : goal.returns-in_ok-push-clause-ok
returns-in_ok-push-clause-ok c =
    adds_between _ _ _ _ _ _ c.in_ok-push.ensures.items refl c.in-Ok.ensures.value.0 c.in-Ok.ensures.value.1

pub returns-in_err-push-clause-gap : goal.returns-in_err-push-clause-gap
returns-in_err-push-clause-gap c =
    on_err _ c.from_residual.result (
      record { left = c.args.x.now; period = c.in-Ok.period },
      record { left = refl; from = c.in-Ok.ensures.value.0; to = c.in-Ok.ensures.value.1 },
    )
