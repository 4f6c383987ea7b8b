use Rattle.std.proofs.Common.{List, ℕ, arith, false, subst, sym, true}
use Rattle.std.proofs.lemmas.Result.{IfOk-at_ok, IfOk-weaker}
use Rattle.command_core.specs.Lines.{lines_in}
use Rattle.command_core.specs.Statement.{meaning_inside, placed_in}
use Rattle.answer_core.specs.declared.answer.Answer.{Answer}
use Rattle.book_core.specs.History.{History}
use Rattle.store_core.specs.Snapshots.{history}
use Rattle.script_core.specs.Answer.{IsAnswerTo}
use Rattle.script_core.specs.BlockCuts.{first_load_meaning}
use Rattle.script_core.specs.Ledgers.{ledger_history}
use Rattle.script_core.specs.Performing.{AsksLoad, PrintsQueries, PrintsSection}
use Rattle.script_core.specs.declared.outcome.Outcome.{Outcome}
use Rattle.script_core.proofs.Blocks.{block-printed, first-asks, sections-joined}
use Rattle.script_core.proofs.together.answer_beside_load.Goals as goal

pub print_behind-requires-clause-queries : goal.print_behind-requires-clause-queries
print_behind-requires-clause-queries g c = λ κs outlives.
    let block = c.args.block.now in
    let newest = history c.args.context.now.newest.now in
    sections-joined newest block.front.first block.back.first
    (lines_in block.front.lines) (lines_in block.back.lines) c.args.printer.now
    c.answer_both-queries.new.printer c.new-later.result c.answer_both-queries.new.later
    c.answer_both-queries.result.0 c.requires.numbers.few
    c.answer_both-queries.ensures.front c.answer_both-queries.ensures.back

pub returns-clause-printed : goal.returns-clause-printed
returns-clause-printed g c =
    IfOk-weaker c.print_behind.result _ _
    (λ reported behind members cut.
    let block = c.args.block.now in
    let newest = history c.args.context.now.newest.now in
    let before = ledger_history c.args.ledger.now in
    let after = ledger_history c.answer_both-queries.new.ledger in
    let mid = c.answer_both-queries.new.printer in
    let later = c.answer_both-queries.new.later in
    let meant = first_load_meaning block.load in
    let queries = c.answer_both-queries.ensures in
    let said = behind.printed in
    let given = said.answer in
    let first = IfOk-at_ok (λ (reported : Outcome × Outcome). PrintsSection newest block.front.first
    (lines_in block.front.lines) c.args.printer.now mid reported.0) behind.queries_are queries.front in
    let second = IfOk-at_ok (λ (reported : Outcome × Outcome). PrintsSection newest block.back.first
    (lines_in block.back.lines) c.new-later.result later reported.1) behind.queries_are queries.back in
    let others = subst
    (λ (u : List ℕ). PrintsQueries newest (placed_in true cut.back) u later behind.queried.1)
    c.new-later.ensures (second.printed cut.back cut.behind) in
    let done = IfOk-at_ok (λ (a : Answer). IsAnswerTo before block.number meant a after) said.is queries.load in
    let here = subst (λ (h : History). IsAnswerTo h cut.load.number (meaning_inside false cut.load) given after)
    (sym c.requires.same)
    (subst (λ m. IsAnswerTo before cut.load.number m given after) cut.means
    (subst (λ n. IsAnswerTo before n meant given after) (sym cut.numbered) done)) in
    block-printed newest after members cut.front cut.back cut.load behind.errors
    c.args.printer.now mid said.near later c.print_behind.new.printer behind.queried.0 behind.queried.1 reported cut.are
    cut.none cut.loads (subst AsksLoad cut.means (first-asks block.load)) (first.printed cut.front cut.before)
    (record {
      answer = said.own.records;
      answers = (given, here, said.own.are);
      printed = said.own.printed;
      errors = said.own.errors;
    }) others said.joined behind.commands behind.refusals) c.print_behind.ensures

pub returns-clause-few : goal.returns-clause-few
returns-clause-few g c =
    let block = c.args.block.now in
    let newest = history c.args.context.now.newest.now in
    IfOk-weaker c.print_behind.result _ _
    (λ reported behind.
    let first = IfOk-at_ok (λ (reported : Outcome × Outcome). PrintsSection newest block.front.first
    (lines_in block.front.lines) c.args.printer.now c.answer_both-queries.new.printer reported.0)
    behind.queries_are c.answer_both-queries.ensures.front in
    let second = IfOk-at_ok (λ (reported : Outcome × Outcome). PrintsSection newest block.back.first
    (lines_in block.back.lines) c.new-later.result c.answer_both-queries.new.later reported.1)
    behind.queries_are c.answer_both-queries.ensures.back in
    omega (arith, first.few, second.few, behind.few, behind.commands, behind.refusals)) c.print_behind.ensures

pub returns-clause-fewer : goal.returns-clause-fewer
returns-clause-fewer g c =
    let block = c.args.block.now in
    let newest = history c.args.context.now.newest.now in
    IfOk-weaker c.print_behind.result _ _
    (λ reported behind.
    let first = IfOk-at_ok (λ (reported : Outcome × Outcome). PrintsSection newest block.front.first
    (lines_in block.front.lines) c.args.printer.now c.answer_both-queries.new.printer reported.0)
    behind.queries_are c.answer_both-queries.ensures.front in
    let second = IfOk-at_ok (λ (reported : Outcome × Outcome). PrintsSection newest block.back.first
    (lines_in block.back.lines) c.new-later.result c.answer_both-queries.new.later reported.1)
    behind.queries_are c.answer_both-queries.ensures.back in
    omega (arith, first.fewer, second.fewer, behind.commands)) c.print_behind.ensures
