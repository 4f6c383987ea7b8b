use Rattle.std.proofs.Common.{◌≡◌, ◌+◌, drop, length}
use Rattle.command_core.specs.Seams.{joined}
use Rattle.command_core.proofs.records.count_of.Given as goal

-- `count` and the records of the remaining batches add up to all.
abbrev pub invariant-loop-batch : goal.invariant-loop-batch
invariant-loop-batch l = l.count + length (joined (drop l.batch-index l.batches)) ≡ length (joined l.batches)
