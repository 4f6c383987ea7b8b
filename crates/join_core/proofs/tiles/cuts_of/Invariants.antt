use Rattle.std.proofs.Common.{◌+◌, ◌-◌, ◌≤◌, length}
use Rattle.join_core.proofs.tiles.cuts_of.Given as goal

abbrev pub invariant-loop-started : goal.invariant-loop-started
invariant-loop-started l = (l.started ≤ length l.starts) × (l.ended ≤ length l.ends)

abbrev pub decreases-loop-started : goal.decreases-loop-started
decreases-loop-started l = (length l.starts - l.started) + (length l.ends - l.ended)
