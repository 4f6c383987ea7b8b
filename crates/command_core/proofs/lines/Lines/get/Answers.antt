use Rattle.std.proofs.Common.{◌<◌, ◌-◌, ◌∙◌, arith}
use Rattle.command_core.proofs.Cutting.{length-part, slice_get-part}
use Rattle.command_core.proofs.lines.Lines.get.Goals as goal

pub returns : goal.returns
returns c =
    let lines = c.args.self in
    let size = length-part lines.from lines.to lines.records.now lines.within in
    let below : c.args.place < lines.to - lines.from = omega (arith, c.requires, size) in
    slice_get-part lines.from lines.to lines.records.now c.args.place below ∙ c.line.ensures
