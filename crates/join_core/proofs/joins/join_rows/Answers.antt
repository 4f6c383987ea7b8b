use Rattle.std.proofs.Common.{List, subst, sym}
use Rattle.dip_core.specs.declared.item.Item.{Item}
use Rattle.dip_core.specs.Item.{HasDistinctIds}
use Rattle.join_core.specs.ItemJoin.{IsItemsJoin}
use Rattle.join_core.proofs.joins.join_rows.Goals as goal

pub join_items-requires-clause-left_ids : goal.join_items-requires-clause-left_ids
join_items-requires-clause-left_ids g c κs within =
    subst HasDistinctIds (sym c.deref.ensures.value) c.in_ok-lefts.ensures.1.left.ids

pub join_items-requires-clause-right_ids : goal.join_items-requires-clause-right_ids
join_items-requires-clause-right_ids g c κs within =
    subst HasDistinctIds (sym c.deref-2.ensures.value) c.in_ok-lefts.ensures.1.right.ids

pub returns : goal.returns
returns g c =
    let rows = c.in_ok-rows.rows in (
      c.in_ok-lefts.ensures.0,
      c.in_ok-lefts.ensures.1.join rows
          (subst (λ (l : List Item). IsItemsJoin l c.in_ok-lefts.rights.items rows) c.deref.ensures.value
          (subst (λ (l : List Item). IsItemsJoin c.deref.result.now l rows) c.deref-2.ensures.value
          c.in_ok-rows.ensures.rows)),
    )
