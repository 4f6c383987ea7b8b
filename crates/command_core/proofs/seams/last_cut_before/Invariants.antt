-- there is no cut from this index on, if any word may follow
use Rattle.std.proofs.Common.{◌≡◌, ℕ, ◌+◌, ◌≤◌, [], length}
use Rattle.command_core.specs.Seams.{IsCut}
use Rattle.command_core.proofs.seams.last_cut_before.Given as goal

abbrev pub invariant-loop-at : goal.invariant-loop-at
invariant-loop-at l =
    l.word ≡ [] → (place : ℕ) → l.at ≤ place → place + 3 ≤ length l.text → IsCut l.text place → ⊥
