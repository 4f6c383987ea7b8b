use Rattle.std.proofs.Common.{arith}
use Rattle.work_core.proofs.Rule.{all-known}
use Rattle.work_core.proofs.claims.Claims.close.Goals as goal

pub free-requires : goal.free-requires
free-requires c k below = absurd (omega (arith, c.close_with.ensures.counts.1, c.self.invariant.1))

pub returns : goal.returns
returns c x below =
    let last = c.close_with.ensures.values.2 in
    all-known _ _ _ _ c.requires.all last.1.1 last.1.0.1 x below
