use Rattle.std.proofs.lemmas.Result.{IfOk-weaker}
use Rattle.list_core.specs.Chunks.{all_in}
use Rattle.match_core.specs.Items.{items_with}
use Rattle.anti_core.proofs.ItemLemmas.{IsItemsAnti-ordered}
use Rattle.anti_core.proofs.class_rows.anti_sides.Goals as goal

pub returns : goal.returns
returns g c =
    IfOk-weaker c.ordered.result _ _
    (λ rows lists.
    IsItemsAnti-ordered (items_with c.args.left.now.rows.now c.args.left.now.classes.now)
    (items_with c.args.right.now.rows.now c.args.right.now.classes.now) (all_in c.in_ok-lists.lists.items) rows
    c.in_ok-lists.ensures lists)
    c.ordered.ensures
