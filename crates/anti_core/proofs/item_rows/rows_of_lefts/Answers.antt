use Rattle.std.proofs.Common.{subst, sym}
use Rattle.std.proofs.lemmas.Result.{IfOk-weaker}
use Rattle.dip_core.specs.Division.{all_of}
use Rattle.anti_core.specs.ItemAnti.{AreItemsRows}
use Rattle.anti_core.proofs.ItemLemmas.{pieces-rows}
use Rattle.anti_core.proofs.item_rows.rows_of_lefts.Goals as goal

pub returns : goal.returns
returns g c =
    let left = c.args.left.now in
    let rights = all_of c.args.rights.now in
    IfOk-weaker c.in_one_list.result _ _
    (λ rows e.
    subst (AreItemsRows left rights) (sym e)
    (pieces-rows left rights c.in_ok-shares.shares.cuts.items c.in_ok-lists.lists.items c.requires.ids
    c.in_ok-lists.ensures))
    c.in_one_list.ensures
