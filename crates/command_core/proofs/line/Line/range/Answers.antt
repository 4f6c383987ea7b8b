use Rattle.std.proofs.Common.{◌≤◌, ◌-◌, arith, sym}
use Rattle.command_core.proofs.Cutting.{length-part, part-part}
use Rattle.command_core.proofs.line.Line.range.Goals as goal

pub returns : goal.returns
returns c =
    let line = c.args.self in
    let size = length-part line.from line.to line.fields.now line.within in
    let within : c.args.to ≤ line.to - line.from = omega (arith, c.requires.within, size) in
    sym (part-part line.from line.to c.args.from c.args.to line.fields.now c.requires.ordered within)
