use Rattle.std.proofs.Common.{◌∙◌, sym}
use Rattle.command_core.specs.Lines.{fields_in}
use Rattle.command_core.proofs.FieldLemmas.{dated-three}
use Rattle.command_core.proofs.fields.dated.Goals as goal

pub returns-in-Some-Some-None : goal.returns-in-Some-Some-None
returns-in-Some-Some-None c =
    c.name_and_point.ensures
    ∙ sym (dated-three (fields_in c.args.line) c.in-Some-Some-None.name.now c.in-Some-Some-None.point.now
    (sym c.in-Some-Some-None.ensures) (sym c.in-Some-Some-None.ensures') (sym c.in-Some-Some-None.ensures''))
