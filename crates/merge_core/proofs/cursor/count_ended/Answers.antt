use Rattle.std.proofs.Common.{rules}
use Rattle.std.proofs.lemmas.Fn.{always_returns_same}
use Rattle.dip_core.specs.declared.item.Item.{Item}
use Rattle.merge_core.specs.Sweep.{has_ended}
use Rattle.merge_core.proofs.PartLemmas.{IsPartitionedBy-ended, ended-from_point}
use Rattle.merge_core.proofs.cursor.count_ended.Goals as goal

pub returns-clause-ended : goal.returns-clause-ended
returns-clause-ended c =
    let items = c.args.items.now in
    let point = c.args.point in
    ended-from_point point items c.min.result c.partition_point.result c.partition_point.ensures.bound
    (c.partition_point.ensures.partitioned (λ (x : Item). has_ended point x)
    (always_returns_same _ _ _ (λ a r f called. search rules))
    (IsPartitionedBy-ended point items c.min.result c.requires))
