use Rattle.std.proofs.Common.{◌∙◌, Some, ap, map}
use Rattle.std.proofs.lemmas.Result.{IfOk-weaker}
use Rattle.match_core.proofs.PlacedLemmas.{placed-pieces}
use Rattle.match_core.proofs.row_items.items_by_range.Goals as goal

pub returns : goal.returns
returns g c =
    IfOk-weaker c.in_one_list.result _ _
    (λ items e.
    ap (map Some) e
    ∙ placed-pieces c.args.rows.now c.args.places.now c.in_ok-shares.shares.cuts.items c.in_ok-lists.lists.items
    c.in_ok-lists.ensures)
    c.in_one_list.ensures
