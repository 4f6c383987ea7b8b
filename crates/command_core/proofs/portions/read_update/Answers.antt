use Rattle.std.proofs.Common.{◌∙◌, ap, sym}
use Rattle.command_core.specs.Lines.{fields_in}
use Rattle.command_core.specs.Meaning.{update_of, if_formed}
use Rattle.command_core.specs.Portions.{settings_in}
use Rattle.command_core.proofs.Cutting.{rest-from}
use Rattle.command_core.proofs.PortionLemmas.{update-four}
use Rattle.command_core.proofs.portions.read_update.Goals as goal

pub returns-in-Some : goal.returns-in-Some
returns-in-Some c =
    let line = fields_in c.args.line in
    let it = c.in-Some-Some-Some in
    let follow = update_of it.name.now it.from.now it.to.now in
    let rest = rest-from line (fields_in c.range.result) c.len.result 4 c.len.ensures c.range.ensures in
    let formed = c.in-Some.ensures ∙ ap settings_in rest in
    let whole =
    update-four line it.name.now it.from.now it.to.now (sym it.ensures) (sym it.ensures') (sym it.ensures'') in
    c.update_of.ensures ∙ (ap (if_formed follow) formed ∙ sym whole)
