use Rattle.std.proofs.Common.{refl, sym, true}
use Rattle.dip_core.specs.declared.item.Item.{Item}
use Rattle.grid_core.proofs.RangeItems.{filter_all, from_filter}
use Rattle.grid_core.proofs.class_items.items_behind.Goals as goal

pub returns-in-None : goal.returns-in-None
returns-in-None c =
    rw c.in-None.is (sym (filter_all (λ (x : Item). true) c.args.items.now (λ k d h. refl)))

pub returns-in-Some : goal.returns-in-Some
returns-in-Some c =
    rw c.in-Some.is (from_filter c.in-Some.class c.args.items.now c.items_from.result.now c.items_from.ensures)
