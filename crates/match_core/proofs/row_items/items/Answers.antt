use Rattle.std.proofs.Common.{◌∙◌, ◌++◌, List, [], ◌∷◌, take, sym, ap}
use Rattle.dip_core.specs.declared.item.Item.{Item}
use Rattle.table_core.specs.Lent.{lent_row}
use Rattle.match_core.specs.Items.{items_of}
use Rattle.match_core.proofs.RowItems.{items_of-more}
use Rattle.match_core.proofs.row_items.items.Goals as goal

pub loop-i-preserved : goal.loop-i-preserved
loop-i-preserved c =
    let rows = c.args.rows.now in
    let i = c.loop-i.i in
    let before = items_of (take i rows) in
    c.in_ok-push.ensures.items
    ∙ ap (λ (l : List Item). l ++ c.item_with.result ∷ []) c.loop-i.invariant
    ∙ ap (λ (x : Item). before ++ x ∷ []) c.item_with.ensures
    ∙ sym (items_of-more rows i (lent_row c.at.result) c.at.ensures)
