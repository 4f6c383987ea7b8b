use Rattle.std.proofs.Common.{◌∙◌, ap, sym}
use Rattle.std.specs.Option.{option_copied}
use Rattle.row_core.specs.ValueOrder.{same_value}
use Rattle.version_core.proofs.WantedLemmas.{wanted-set}
use Rattle.version_core.specs.Wanted.{are_wanted}
use Rattle.book_core.proofs.BoundLemmas.{want-again}
use Rattle.book_core.proofs.bind.want.Goals as goal

pub returns-in-None-clause-wanted : goal.returns-in-None-clause-wanted
returns-in-None-clause-wanted c = λ values.
    ap (λ l. are_wanted l values) c.set.ensures
    ∙ wanted-set c.args.wanted.now values c.args.column c.args.value.now c.requires
    (sym c.get.ensures ∙ ap option_copied c.in-None.is)

pub returns-in-Some-clause-wanted : goal.returns-in-Some-clause-wanted
returns-in-Some-clause-wanted c = λ values.
    want-again c.args.wanted.now values c.args.column c.in-Some.one.now c.args.value.now c.is.result
    (sym c.get.ensures ∙ ap option_copied c.in-Some.is)
    (c.is.ensures ∙ ap (same_value c.in-Some.one.now) c.from.ensures)
