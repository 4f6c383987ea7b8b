use Rattle.std.proofs.Common.{◌∙◌, sym}
use Rattle.command_core.proofs.Cutting.{slice_get-part, slice_get-part-past}
use Rattle.command_core.proofs.line.Line.get.Goals as goal

pub returns-then-place-self : goal.returns-then-place-self
returns-then-place-self c =
    let line = c.args.self in
    let fields = line.fields.now in
    c.get.ensures ∙ sym (slice_get-part line.from line.to fields c.args.place c.if-place-self.true)

pub returns-else-place-self : goal.returns-else-place-self
returns-else-place-self c =
    let line = c.args.self in
    sym (slice_get-part-past line.from line.to line.fields.now c.args.place c.if-place-self.false)
