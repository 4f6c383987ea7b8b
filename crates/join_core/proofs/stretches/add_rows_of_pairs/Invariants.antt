use Rattle.std.proofs.Common.{◌-◌, ◌≡◌, ◌≤◌, ◌*◌, length}
use Rattle.join_core.specs.PairValues.{AddsFirstPairs}
use Rattle.join_core.proofs.stretches.add_rows_of_pairs.Given as goal

abbrev pub invariant-loop-first : goal.invariant-loop-first
invariant-loop-first g l =
    (l.first ≤ l.count) × (l.count ≡ length l.pairs.left.now * length l.pairs.right.now)
    × AddsFirstPairs l.pairs.left.now l.pairs.right.now l.first l.fn.rows.items l.rows.items l.turns

abbrev pub decreases-loop-first : goal.decreases-loop-first
decreases-loop-first g l = l.count - l.first
