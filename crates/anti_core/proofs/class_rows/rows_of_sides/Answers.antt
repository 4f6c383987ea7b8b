use Rattle.std.proofs.lemmas.Result.{IfOk-weaker}
use Rattle.match_core.specs.Items.{items_with}
use Rattle.anti_core.proofs.RangeLemmas.{ranges-rows}
use Rattle.anti_core.proofs.class_rows.rows_of_sides.Goals as goal

pub returns : goal.returns
returns g c =
    let left = items_with c.args.left.now.rows.now c.args.left.now.classes.now in
    let right = items_with c.args.right.now.rows.now c.args.right.now.classes.now in
    IfOk-weaker c.shared_out.result _ _
    (λ lists given.
    ranges-rows left right c.in_ok-shares.shares.cuts.items lists.items c.requires.ids given)
    c.shared_out.ensures
