-- The batches hold the records of the pieces already moved.
use Rattle.std.proofs.Common.{◌≡◌, ◌++◌}
use Rattle.command_core.specs.Seams.{joined}
use Rattle.command_core.proofs.script_reader.add_batches.Given as goal

abbrev pub invariant-loop-piece : goal.invariant-loop-piece
invariant-loop-piece l = joined l.batches.items ≡ joined l.fn.batches.items ++ joined l.yielded
