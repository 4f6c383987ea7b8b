use Rattle.std.proofs.Common.{rules}
use Rattle.std.proofs.lemmas.List.Sorted.{IsNonDecreasingBy-from_sort_by_key}
use Rattle.dip_core.specs.declared.item.Item.{Item}
use Rattle.grid_core.proofs.class_items.order_by_class.Goals as goal

pub returns-clause-sorted : goal.returns-clause-sorted
returns-clause-sorted g c =
    IsNonDecreasingBy-from_sort_by_key (λ (x : Item). x.class) c.sort_unstable_by_key.new.items.items
    c.sort_unstable_by_key.ensures.sorted (λ a r f called. search rules)
