use Rattle.std.proofs.Common.{◌≡◌, ◌∙◌, [], ◌∷◌, ap, false, length, refl, subst}
use Rattle.book_core.specs.History.{History}
use Rattle.command_core.specs.Statement.{placed_in}
use Rattle.answer_core.specs.PrintedRecords.{together_record}
use Rattle.script_core.specs.Ledgers.{ledger_history}
use Rattle.script_core.specs.Performing.{PrintsBlock}
use Rattle.script_core.proofs.Blocks.{block-stated}
use Rattle.script_core.proofs.together.answer_together.Goals as goal

pub returns-clause-printed : goal.returns-clause-printed
returns-clause-printed g c = λ members are.
    let number = c.args.number in
    let before = ledger_history c.args.ledger.now in
    let after = ledger_history c.answer_commands.new.ledger in
    let shown = c.in_ok-newest.ensures.shows in
    let count : c.number.result ≡ length before = c.number.ensures.number ∙ (shown.1 ∙ ap length shown.0) in
    let block = subst (λ (h : History). PrintsBlock h (placed_in false members) after c.together.new.self
    c.answer_commands.new.printer c.in_ok-reported.reported) shown.0 (c.in_ok-reported.ensures.printed members are) in
    block-stated before number (placed_in false members) after c.args.printer.now c.together.new.self
    c.answer_commands.new.printer c.in_ok-reported.reported _ _ (ap (λ n. together_record n ∷ []) count)
    c.in_ok-together.ensures.ok block refl refl
