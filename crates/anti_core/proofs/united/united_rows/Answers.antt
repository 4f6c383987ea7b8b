use Rattle.std.proofs.lemmas.Result.{IfOk-weaker}
use Rattle.list_core.specs.Chunks.{all_in}
use Rattle.match_core.specs.Items.{items_in_range}
use Rattle.anti_core.proofs.UnionPieces.{pieces-unions}
use Rattle.anti_core.proofs.UnitedLemmas.{unions_again}
use Rattle.anti_core.proofs.united.united_rows.Goals as goal

pub returns : goal.returns
returns g c =
    let rows = c.args.side.now.rows.now in
    let classes = c.args.side.now.classes.now in
    IfOk-weaker c.united_again.result _ _
    (λ united u.
    unions_again (items_in_range c.args.range rows classes) (all_in c.in_ok-unions.unions.items) united.items
    (pieces-unions c.args.range rows classes c.in_ok-shares.shares.cuts.items c.in_ok-unions.unions.items
    c.in_ok-unions.ensures)
    u)
    c.united_again.ensures
