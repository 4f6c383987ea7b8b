use Rattle.std.proofs.Common.{subst, sym}
use Rattle.std.specs.Prelude.{Contains}
use Rattle.std.proofs.lemmas.Result.{IfOk-weaker}
use Rattle.list_core.specs.Chunks.{all_in}
use Rattle.list_core.specs.Wanted.{IsListOf}
use Rattle.anti_core.specs.Anti.{AntiRowBefore}
use Rattle.anti_core.proofs.OrderingLemmas.{ranges-ordered}
use Rattle.anti_core.proofs.ordering.rows_by_id.Goals as goal

pub returns : goal.returns
returns g c =
    let all = all_in c.args.lists.now in
    IfOk-weaker c.of_all.result _ _
    (λ rows e.
    subst (IsListOf AntiRowBefore (Contains all)) (sym e)
    (ranges-ordered all c.args.shares.now.cuts.items c.in_ok-sorted.sorted.items c.in_ok-sorted.ensures))
    c.of_all.ensures
