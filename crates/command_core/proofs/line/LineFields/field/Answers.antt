use Rattle.std.proofs.Common.{◌<◌, ◌-◌, ◌∙◌, [], arith, sym}
use Rattle.std.proofs.lemmas.Option.{get_or_from_slice_get}
use Rattle.command_core.specs.Lines.{fields_in}
use Rattle.command_core.proofs.Cutting.{length-part, slice_get-part}
use Rattle.command_core.proofs.line.LineFields.field.Goals as goal

pub at-requires : goal.at-requires
at-requires c =
    let line = c.args.self.now in
    omega (arith, c.requires, length-part line.from line.to line.fields.now line.within, line.ordered, line.within)

pub returns : goal.returns
returns c =
    let line = c.args.self.now in
    let inside : c.args.place < line.to - line.from =
    omega (arith, c.requires, length-part line.from line.to line.fields.now line.within) in
    sym (get_or_from_slice_get (fields_in line) c.args.place c.at.result.now []
    (slice_get-part line.from line.to line.fields.now c.args.place inside ∙ c.at.ensures))
