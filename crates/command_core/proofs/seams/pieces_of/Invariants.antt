use Rattle.std.proofs.Common.{◌≡◌, ◌≤◌, ◌+◌, ◌++◌, length, map, max}
use Rattle.command_core.specs.Seams.{joined}
use Rattle.command_core.proofs.seams.pieces_of.Given as goal

-- The pieces already cut and the rest are the script. With the pieces still to be cut there are at most `count`.
abbrev pub invariant-loop-left : goal.invariant-loop-left
invariant-loop-left l =
    (joined (map (λ p. p.now) l.pieces.items) ++ l.rest ≡ l.fn.script)
    × (length l.pieces.items + max 1 l.left ≤ max 1 l.count)
