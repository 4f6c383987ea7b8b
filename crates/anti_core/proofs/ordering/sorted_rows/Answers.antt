use Rattle.std.proofs.lemmas.Result.{IfOk-weaker}
use Rattle.list_core.specs.Chunks.{all_in}
use Rattle.anti_core.proofs.OrderingLemmas.{range-apart, range-sorted}
use Rattle.anti_core.proofs.ordering.sorted_rows.Goals as goal

pub in_order-requires : goal.in_order-requires
in_order-requires c =
    range-apart (all_in c.args.lists.now) c.in_ok-rows.rows.items c.args.ids c.in_ok-rows.ensures c.requires

pub returns : goal.returns
returns c =
    IfOk-weaker c.in_order.result _ _
    (λ sorted lists.
    range-sorted (all_in c.args.lists.now) c.in_ok-rows.rows.items c.args.ids sorted c.in_ok-rows.ensures lists)
    c.in_order.ensures
