use Rattle.std.proofs.lemmas.Result.{IfOk-weaker}
use Rattle.work_core.proofs.RangeLemmas.{have_each}
use Rattle.work_core.proofs.shares.Shares.of.Goals as goal

pub returns-clause-each : goal.returns-clause-each
returns-clause-each g c =
    IfOk-weaker c.cut_at.result _ _ (λ shares w. have_each g.T.Ord.cmp shares.cuts.items) c.cut_at.ensures.workers
