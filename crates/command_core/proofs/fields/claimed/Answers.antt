use Rattle.std.proofs.Common.{◌∙◌, sym}
use Rattle.command_core.specs.Lines.{fields_in}
use Rattle.command_core.proofs.FieldLemmas.{claimed-four}
use Rattle.command_core.proofs.fields.claimed.Goals as goal

pub returns-in-Some-Some-Some-None : goal.returns-in-Some-Some-Some-None
returns-in-Some-Some-Some-None c =
    let it = c.in-Some-Some-Some-None in
    c.name_and_claim.ensures
    ∙ sym (claimed-four (fields_in c.args.line) it.name.now it.parts.now it.instant.now (sym it.ensures)
    (sym it.ensures') (sym it.ensures'') (sym it.ensures'''))
