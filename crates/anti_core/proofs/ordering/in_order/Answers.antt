use Rattle.std.proofs.Common.{subst, sym}
use Rattle.std.specs.Prelude.{Contains}
use Rattle.std.proofs.lemmas.Result.{IfOk-weaker}
use Rattle.list_core.specs.Wanted.{IsListOf}
use Rattle.anti_core.specs.Anti.{AntiRowBefore}
use Rattle.anti_core.proofs.OrderingLemmas.{all-sorted}
use Rattle.anti_core.proofs.ordering.in_order.Goals as goal

pub returns : goal.returns
returns c =
    let found = c.args.rows.items in
    IfOk-weaker c.of.result _ _
    (λ sorted e.
    subst (IsListOf AntiRowBefore (Contains found)) (sym e)
    (all-sorted found c.sort_unstable.new.self.items c.requires c.sort_unstable.ensures.permutation
    c.sort_unstable.ensures.sorted))
    c.of.ensures
