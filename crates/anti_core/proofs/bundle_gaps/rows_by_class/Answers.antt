use Rattle.std.proofs.Common.{subst, sym}
use Rattle.std.proofs.lemmas.Result.{IfOk-weaker}
use Rattle.anti_core.specs.ItemAnti.{AreItemsRows}
use Rattle.anti_core.proofs.RangeLemmas.{ranges-rows}
use Rattle.anti_core.proofs.bundle_gaps.rows_by_class.Goals as goal

pub returns : goal.returns
returns g c =
    let left = c.args.left.now in
    let right = c.args.right.now in
    IfOk-weaker c.in_one_list.result _ _
    (λ rows e.
    subst (AreItemsRows left right) (sym e)
    (ranges-rows left right c.in_ok-shares.shares.cuts.items c.in_ok-lists.lists.items c.requires.ids
    c.in_ok-lists.ensures))
    c.in_one_list.ensures

pub returns-then-len-eq1 : goal.returns-then-len-eq1
returns-then-len-eq1 g c = c.rows_of_bundles.ensures
