use Rattle.std.proofs.Common.{◌∙◌, Bool, not, ap, sym, subst, filter, List}
use Rattle.std.specs.Ordering.{nat_cmp}
use Rattle.std.proofs.lemmas.List.Kept.{IsNonDecreasingBy-filter}
use Rattle.dip_core.specs.declared.item.Item.{Item}
use Rattle.work_core.specs.Ranges.{has_begun, has_ended}
use Rattle.grid_core.specs.Bundles.{ClassesRise}
use Rattle.grid_core.proofs.RangeItems.{filter_both}
use Rattle.grid_core.proofs.class_items.items_in.Goals as goal

pub items_before-requires : goal.items_before-requires
items_before-requires c =
    subst ClassesRise (sym c.items_behind.ensures)
    (IsNonDecreasingBy-filter (λ (x : Item). x.class) (λ (x : Item). has_begun nat_cmp c.args.range.from x.class)
    c.args.items.now c.requires)

pub returns : goal.returns
returns c =
    let behind : Item → Bool = λ x. has_begun nat_cmp c.args.range.from x.class in
    let before : Item → Bool = λ x. not (has_ended nat_cmp c.args.range.before x.class) in
    c.items_before.ensures
    ∙ (ap (λ (xs : List Item). filter before xs) c.items_behind.ensures ∙ filter_both before behind c.args.items.now)
