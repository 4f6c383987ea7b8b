use Rattle.std.proofs.Common.{arith}
use Rattle.script_core.proofs.session.answer_next.Goals as goal

pub answer_statement-requires-clause-numbers : goal.answer_statement-requires-clause-numbers
answer_statement-requires-clause-numbers g c =
    omega (arith, c.in_ok-statement.ensures.behind, c.requires.numbers)

pub returns-clause-printed : goal.returns-clause-printed
returns-clause-printed g c =
    let found = c.in_ok-statement.ensures in
    record {
      some = found.some;
      within = found.within;
      statement = found.states.0;
      states = found.states.2;
      prints = c.in_ok-reported.ensures.printed found.states.0 found.states.1;
    }
