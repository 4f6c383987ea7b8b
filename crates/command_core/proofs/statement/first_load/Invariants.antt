-- No command before index `at` is a load.
use Rattle.std.proofs.Common.{◌-◌, ◌≤◌, length}
use Rattle.command_core.specs.Lines.{lines_in}
use Rattle.command_core.proofs.FirstLoad.{IsSearched}
use Rattle.command_core.proofs.statement.first_load.Given as goal

abbrev pub invariant-loop-at : goal.invariant-loop-at
invariant-loop-at l = record {
  within : l.at ≤ length (lines_in l.lines);
  searched : IsSearched (lines_in l.lines) l.at;
}

abbrev pub decreases-loop-at : goal.decreases-loop-at
decreases-loop-at l = length (lines_in l.lines) - l.at
