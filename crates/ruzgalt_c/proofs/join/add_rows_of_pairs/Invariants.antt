use Rattle.std.proofs.Common.{ℕ}
use Rattle.join_core.specs.PairValues.{AddsFirstPairs}
use Rattle.ruzgalt_c.proofs.join.add_rows_of_pairs.Given as goal

abbrev pub invariant-loop-number : goal.invariant-loop-number
invariant-loop-number l =
    (turns : ℕ) × AddsFirstPairs l.pairs.left.now l.pairs.right.now l.number l.fn.rows.items l.rows.items turns
