use Rattle.std.proofs.Common.{◌≤◌, ◌-◌, arith, sym}
use Rattle.command_core.proofs.Cutting.{length-part, part-part}
use Rattle.command_core.proofs.lines.Lines.range.Goals as goal

pub returns : goal.returns
returns c =
    let lines = c.args.self in
    let size = length-part lines.from lines.to lines.records.now lines.within in
    let within : c.args.to ≤ lines.to - lines.from = omega (arith, c.requires.within, size) in
    sym (part-part lines.from lines.to c.args.from c.args.to lines.records.now c.requires.ordered within)
