-- The queries before record `at` were answered.
use Rattle.std.proofs.Common.{◌≤◌, ◌-◌, length}
use Rattle.command_core.specs.Lines.{lines_in}
use Rattle.store_core.specs.Snapshots.{history}
use Rattle.script_core.proofs.Blocks.{QueriesDone}
use Rattle.script_core.proofs.together.answer_queries.Given as goal

abbrev pub invariant-loop-at : goal.invariant-loop-at
invariant-loop-at g l = record {
  within : l.at ≤ length (lines_in l.lines);
  few : l.reported.commands ≤ l.at;
  fewer : l.reported.errors ≤ l.reported.commands;
  done : QueriesDone (history l.context.newest.now) l.first (lines_in l.lines) l.at l.fn.printer l.printer l.reported;
}

abbrev pub decreases-loop-at : goal.decreases-loop-at
decreases-loop-at g l = length (lines_in l.lines) - l.at
