-- the rows before `i` have their numbers, the others their ranks
use Rattle.std.proofs.Common.{◌≡◌, ◌<◌, ◌≤◌, ℕ}
use Rattle.std.specs.Prelude.{slice_index}
use Rattle.match_core.proofs.numbering.number_rows.Given as goal

abbrev pub invariant-loop-i : goal.invariant-loop-i
invariant-loop-i l = (k : ℕ) → (k < l.i → slice_index l.ranks k ≡ slice_index l.numbers (slice_index l.initial.ranks k))
    × (l.i ≤ k → slice_index l.ranks k ≡ slice_index l.initial.ranks k)
