-- The records before index `at` belong to some commands.
use Rattle.std.proofs.Common.{◌-◌, ◌≤◌, length, take}
use Rattle.command_core.specs.Lines.{lines_in}
use Rattle.command_core.proofs.Blocks.{HaveMembers}
use Rattle.command_core.proofs.statement.commands_len.Given as goal

abbrev pub invariant-loop-at : goal.invariant-loop-at
invariant-loop-at l = record {
  within : l.at ≤ length (lines_in l.lines);
  before : HaveMembers (take l.at (lines_in l.lines));
}

abbrev pub decreases-loop-at : goal.decreases-loop-at
decreases-loop-at l = length (lines_in l.lines) - l.at
