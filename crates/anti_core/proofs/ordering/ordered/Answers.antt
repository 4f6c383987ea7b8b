use Rattle.std.proofs.Common.{IfOk, List, subst}
use Rattle.std.specs.Global.{Vec}
use Rattle.std.specs.Prelude.{Contains}
use Rattle.list_core.specs.Chunks.{all_in}
use Rattle.list_core.specs.Wanted.{IsListOf}
use Rattle.anti_core.specs.Anti.{AntiRowBefore}
use Rattle.anti_core.specs.declared.rows.AntiRow.{AntiRow}
use Rattle.anti_core.proofs.ordering.ordered.Goals as goal

pub returns-then-len-eq1 : goal.returns-then-len-eq1
returns-then-len-eq1 g c =
    subst
    (λ (l : List AntiRow). IfOk c.in_order.result (λ (rows : List AntiRow). IsListOf AntiRowBefore (Contains l) rows))
    c.in_ok-rows.ensures c.in_order.ensures

pub returns : goal.returns
returns g c =
    subst
    (λ (l : List (Vec AntiRow)). IfOk c.rows_by_id.result (λ (rows : List AntiRow). IsListOf AntiRowBefore (Contains (all_in l)) rows))
    c.deref.ensures.value c.rows_by_id.ensures
