use Rattle.std.proofs.Common.{leb, rules}
use Rattle.std.proofs.lemmas.Fn.{always_returns_same}
use Rattle.std.proofs.lemmas.List.Sorted.{IsPartitionedBy-leb}
use Rattle.dip_core.specs.declared.item.Item.{Item}
use Rattle.grid_core.proofs.BundleLemmas.{parted-from_point}
use Rattle.grid_core.proofs.class_items.parted_behind.Goals as goal

pub returns : goal.returns
returns c =
    let items = c.args.items.now in
    let class = c.args.class in
    parted-from_point class items c.split_at.result.0.now c.split_at.result.1.now c.partition_point-low.result
    c.partition_point-low.ensures.bound
    (c.partition_point-low.ensures.partitioned (λ (x : Item). leb x.class class)
    (always_returns_same _ _ _ (λ a r f called. search rules))
    (IsPartitionedBy-leb (λ (x : Item). x.class) items class c.requires))
    c.split_at.ensures.front c.split_at.ensures.back
