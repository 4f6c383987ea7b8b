-- The removed batches had consumed records only.
use Rattle.std.proofs.Common.{◌≡◌, ◌≤◌, drop, length}
use Rattle.command_core.specs.Seams.{joined}
use Rattle.command_core.proofs.records.give_back.Given as goal

abbrev pub invariant-loop-first : goal.invariant-loop-first
invariant-loop-first l =
    (l.gone ≤ l.passed) × (joined l.batches.items ≡ drop l.gone (joined l.fn.batches.items))

abbrev pub decreases-loop-first : goal.decreases-loop-first
decreases-loop-first l = length l.batches.items
