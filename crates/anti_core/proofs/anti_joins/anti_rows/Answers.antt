use Rattle.std.proofs.Common.{List, refl, subst}
use Rattle.std.proofs.lemmas.Result.{IfOk-weaker}
use Rattle.dip_core.specs.declared.item.Item.{Item}
use Rattle.match_core.specs.Items.{items_with}
use Rattle.match_core.specs.Columns.{MatchesOn}
use Rattle.match_core.proofs.Sided.{IsSide, side_made}
use Rattle.match_core.proofs.Tell.{classes_tell}
use Rattle.match_core.proofs.SideIds.{side-distinct}
use Rattle.anti_core.specs.ItemAnti.{IsItemsAnti}
use Rattle.anti_core.proofs.RowLemmas.{IsAnti-of_items}
use Rattle.anti_core.proofs.anti_joins.anti_rows.Goals as goal
use Rattle.anti_core.proofs.anti_joins.anti_rows.Goals.{After-deref-2}
use Rattle.anti_core.proofs.anti_joins.anti_rows.Given.{Over}

-- the items of the left rows
left_items : (g : Over) (c : After-deref-2 g)
    → IsSide c.args.left.rows.now c.in_ok-ones.field-0.left.items
    (items_with c.args.left.rows.now c.deref.result.now)
left_items g c =
    side_made c.args.left.rows.now c.args.left.rows.now c.in_ok-ones.field-0.left.items c.deref.result.now
    (items_with c.args.left.rows.now c.deref.result.now) refl refl c.deref.ensures.value
    c.in_ok-ones.ensures.left

-- the items of the right rows
right_items : (g : Over) (c : After-deref-2 g)
    → IsSide c.args.right.rows.now c.in_ok-ones.field-0.right.items
    (items_with c.args.right.rows.now c.deref-2.result.now)
right_items g c =
    side_made c.args.right.rows.now c.args.right.rows.now c.in_ok-ones.field-0.right.items
    c.deref-2.result.now (items_with c.args.right.rows.now c.deref-2.result.now) refl refl
    c.deref-2.ensures.value c.in_ok-ones.ensures.right

pub anti_sides-requires-clause-ids : goal.anti_sides-requires-clause-ids
anti_sides-requires-clause-ids g c = λ κs outlives.
    side-distinct c.args.left.rows.now c.in_ok-ones.field-0.left.items
    (items_with c.args.left.rows.now c.deref.result.now)
    (left_items g (goal.at.anti_sides-requires-clause-ids g c).After-deref-2) c.args.left.rise

pub returns : goal.returns
returns g c =
    let at = (goal.at.returns g c).After-deref-2 in
    let one = left_items g at in
    let other = right_items g at in
    let lefts = c.args.left.rows.now in
    let rights = c.args.right.rows.now in
    let ones = c.in_ok-ones.field-0.left.items in
    let others = c.in_ok-ones.field-0.right.items in
    let left = c.args.left.schema.now in
    let right = c.args.right.schema.now in
    let on = c.args.on.now in
    IfOk-weaker c.anti_sides.result _ _
    (λ rows lists.
    IsAnti-of_items (MatchesOn left right on) lefts rights ones others one.enough other.enough
    (classes_tell left right lefts rights on ones others c.in_ok-ones.ensures.left c.in_ok-ones.ensures.tell) rows
    (subst (λ (b : List Item). IsItemsAnti (items_with lefts ones) b rows) other.are
    (subst (λ (a : List Item).
    IsItemsAnti a (items_with c.args.right.rows.now c.deref-2.result.now) rows) one.are lists)))
    c.anti_sides.ensures
