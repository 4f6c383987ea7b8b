use Rattle.std.proofs.Common.{◌∙◌, sym}
use Rattle.command_core.specs.Lines.{fields_in}
use Rattle.command_core.proofs.FieldLemmas.{spanned-four}
use Rattle.command_core.proofs.fields.spanned.Goals as goal

pub returns-in-Some-Some-Some-None : goal.returns-in-Some-Some-Some-None
returns-in-Some-Some-Some-None c =
    let it = c.in-Some-Some-Some-None in
    c.name_and_span.ensures
    ∙ sym (spanned-four (fields_in c.args.line) it.name.now it.first.now it.last.now (sym it.ensures)
    (sym it.ensures') (sym it.ensures'') (sym it.ensures'''))
