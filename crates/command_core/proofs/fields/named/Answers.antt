use Rattle.std.proofs.Common.{◌∙◌, sym}
use Rattle.command_core.specs.Lines.{fields_in}
use Rattle.command_core.proofs.FieldLemmas.{named-two}
use Rattle.command_core.proofs.fields.named.Goals as goal

pub returns-in-Some-None : goal.returns-in-Some-None
returns-in-Some-None c =
    c.name_in.ensures
    ∙ sym (named-two (fields_in c.args.line) c.in-Some-None.name.now (sym c.in-Some-None.ensures)
    (sym c.in-Some-None.ensures'))
