use Rattle.std.proofs.Common.{ltb, rules, sym, true, refl}
use Rattle.std.proofs.lemmas.Fn.{always_returns_same}
use Rattle.std.proofs.lemmas.List.Sorted.{IsPartitionedBy-ltb}
use Rattle.dip_core.specs.declared.item.Item.{Item}
use Rattle.grid_core.proofs.RangeItems.{before_filter, filter_all}
use Rattle.grid_core.proofs.class_items.items_before.Goals as goal

pub returns-in-None : goal.returns-in-None
returns-in-None c =
    rw c.in-None.is (sym (filter_all (λ (x : Item). true) c.args.items.now (λ k d h. refl)))

pub returns-in-Some : goal.returns-in-Some
returns-in-Some c =
    let items = c.args.items.now in
    let class = c.in-Some.class in
    rw c.in-Some.is (before_filter class items c.partition_point.result c.partition_point.ensures.bound
    (c.partition_point.ensures.partitioned (λ (x : Item). ltb x.class class)
    (always_returns_same _ _ _ (λ a r f called. search rules))
    (IsPartitionedBy-ltb (λ (x : Item). x.class) items class c.requires)))
