use Rattle.std.proofs.Common.{ℕ, ◌<◌, [], suc, get_or, map}
use Rattle.command_core.specs.Seams.{IsSeam}
use Rattle.command_core.proofs.seams.are_seams.Given as goal

-- There are seams between the pieces already tested.
abbrev pub invariant-loop-place : goal.invariant-loop-place
invariant-loop-place l = (i : ℕ) → suc i < l.place
    → IsSeam (get_or (map (λ p. p.now) l.pieces) i []) (get_or l.lists i [])
    (get_or (map (λ p. p.now) l.pieces) (suc i) [])
