-- `last` is the last field of the batches already visited.
use Rattle.std.proofs.Common.{◌≡◌, take}
use Rattle.std.specs.Prelude.{option_map}
use Rattle.command_core.specs.Seams.{joined, last}
use Rattle.command_core.proofs.piece.last_of.Given as goal

abbrev pub invariant-loop-batch : goal.invariant-loop-batch
invariant-loop-batch l =
    option_map (λ s. s.now) l.last ≡ last (joined (joined (take l.batch-index l.batches)))
