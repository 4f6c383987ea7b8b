use Rattle.std.proofs.Common.{arith}
use Rattle.work_core.proofs.PresentValues.{length-present_values}
use Rattle.work_core.proofs.outs.Outs.len.Goals as goal

pub returns : goal.returns
returns g c =
    let places = c.self.inside.places in
    let same = length-present_values places.items c.self.invariant in
    rw (← c.self.view_is) (omega (arith, places.ok.0, same, c.len.ensures))
