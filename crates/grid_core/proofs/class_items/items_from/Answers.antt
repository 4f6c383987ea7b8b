use Rattle.std.proofs.Common.{ltb, rules}
use Rattle.std.proofs.lemmas.Fn.{always_returns_same}
use Rattle.std.proofs.lemmas.List.Sorted.{IsPartitionedBy-ltb}
use Rattle.dip_core.specs.declared.item.Item.{Item}
use Rattle.grid_core.proofs.BundleLemmas.{from-point}
use Rattle.grid_core.proofs.class_items.items_from.Goals as goal

pub returns : goal.returns
returns c =
    let items = c.args.items.now in
    let class = c.args.class in
    from-point class items c.partition_point-lower.result c.partition_point-lower.ensures.bound
    (c.partition_point-lower.ensures.partitioned (λ (x : Item). ltb x.class class)
    (always_returns_same _ _ _ (λ a r f called. search rules))
    (IsPartitionedBy-ltb (λ (x : Item). x.class) items class c.requires))
