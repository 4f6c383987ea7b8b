use Rattle.std.proofs.Common.{arith, ◌∙◌, ◌≤◌, ◌<◌, sym, length}
use Rattle.work_core.proofs.PresentValues.{get-present_values, get-present_values_past}
use Rattle.work_core.proofs.outs.Outs.get.Goals as goal

pub returns-then-i-len : goal.returns-then-i-len
returns-then-i-len g c =
    let places = c.self.inside.places in
    let inside : c.args.i < length places.items = omega (arith, places.ok.0, c.len.ensures, c.if-i-len.true) in
    let at = get-present_values places.items c.args.i c.index.result.now c.self.invariant inside c.index.ensures in
    rw (← c.self.view_is) (c.as_ref.ensures.value ∙ sym at)

pub returns-else-i-len : goal.returns-else-i-len
returns-else-i-len g c =
    let places = c.self.inside.places in
    let past : length places.items ≤ c.args.i = omega (arith, places.ok.0, c.len.ensures, c.if-i-len.false) in
    rw (← c.self.view_is) (sym (get-present_values_past places.items c.args.i c.self.invariant past))
