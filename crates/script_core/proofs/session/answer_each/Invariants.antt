-- The statements before record `at` were executed, and their answers were written.
use Rattle.std.proofs.Common.{◌≡◌, ◌+◌, ◌*◌, ◌≤◌, ◌-◌, [], drop, length}
use Rattle.stream_core.specs.Counted.{failures_of, inner_of}
use Rattle.script_core.specs.Ledgers.{ledger_history, left_in, place_in}
use Rattle.script_core.proofs.Progress.{Progress}
use Rattle.script_core.proofs.session.answer_each.Given as goal

abbrev pub invariant-loop-at : goal.invariant-loop-at
invariant-loop-at g l = record {
  within : l.at ≤ length l.fn.records;
  rest : l.records ≡ drop l.at l.fn.records;
  few : l.outcome.commands ≤ l.at;
  fewer : l.outcome.errors ≤ l.outcome.commands;
  counts : failures_of l.fn.writer ≤ failures_of l.writer;
  tries : failures_of l.writer + l.patience.left ≤ failures_of l.fn.writer + l.fn.patience.left;
  begins : l.printer ≡ [];
  progress : Progress (place_in l.fn.ledger l.fn.number l.fn.records) (g.W.Write.contents (inner_of l.fn.writer))
      (g.W.Write.contents (inner_of l.writer)) (ledger_history l.ledger) l.at l.outcome;
  left : left_in l.fn.ledger ≤ left_in l.ledger + 2 * l.at;
}

abbrev pub decreases-loop-at : goal.decreases-loop-at
decreases-loop-at g l = length l.fn.records - l.at
