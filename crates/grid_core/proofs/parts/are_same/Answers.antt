use Rattle.grid_core.proofs.SameLemmas.{items_eq-Decides}
use Rattle.grid_core.proofs.parts.are_same.Goals as goal

pub returns : goal.returns
returns c = items_eq-Decides c.args.some.now c.args.others.now c.eq.result c.eq.ensures
