use Rattle.std.proofs.Common.{sym}
use Rattle.work_core.proofs.PieceLemmas.{piece-part}
use Rattle.work_core.proofs.range.items_within.Goals as goal

pub returns : goal.returns
returns g c =
    sym (piece-part c.args.range c.places_within-from.result.0 c.places_within-from.result.1 c.args.items.now
    c.places_within-from.ensures.before c.places_within-from.ensures.from)
