-- The record is at index `left` of the remaining batches.
use Rattle.std.proofs.Common.{◌≡◌, ◌<◌, drop, length}
use Rattle.command_core.specs.Seams.{joined}
use Rattle.command_core.proofs.line_iter.line_and_rest.Given as goal

abbrev pub invariant-loop-first : goal.invariant-loop-first
invariant-loop-first l =
    (drop l.left (joined l.rest) ≡ drop l.place (joined l.batches)) × (l.left < length (joined l.rest))

abbrev pub decreases-loop-first : goal.decreases-loop-first
decreases-loop-first l = length l.rest
