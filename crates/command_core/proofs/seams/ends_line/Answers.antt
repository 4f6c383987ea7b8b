use Rattle.std.proofs.Common.{◌∙◌, ap, sym}
use Rattle.std.specs.Prelude.{option_copied}
use Rattle.command_core.proofs.SeamLemmas.{last-at, line_or_not, none_last}
use Rattle.command_core.proofs.seams.ends_line.Goals as goal

pub returns-in-Some : goal.returns-in-Some
returns-in-Some c =
    line_or_not c.args.text.now c.in-Some.byte.now
    (last-at c.args.text.now ∙ sym c.last.ensures.value ∙ ap option_copied c.in-Some.is)

pub returns-in-None : goal.returns-in-None
returns-in-None c =
    none_last c.args.text.now (last-at c.args.text.now ∙ sym c.last.ensures.value ∙ ap option_copied c.in-None.is)
