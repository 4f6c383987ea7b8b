use Rattle.std.proofs.Common.{◌-◌, List, length, take, drop, subst}
use Rattle.dip_core.specs.declared.item.Item.{Item}
use Rattle.merge_core.specs.Sweep.{PassesUpto}
use Rattle.merge_core.proofs.PartLemmas.{passes_sliced}
use Rattle.merge_core.proofs.cursor.Cursor.pass_ended.Goals as goal

pub returns : goal.returns
returns c =
    let rest = c.self.inside.rest.now in
    let ended = c.count_ended-ended.result in
    subst (λ (items : List Item).
    PassesUpto c.args.x.now.period.from items (take (length rest - ended) (drop ended rest)) ended)
    c.self.view_is
    (passes_sliced c.args.x.now.period.from rest ended c.count_ended-ended.ensures.inside
    c.count_ended-ended.ensures.ended)
