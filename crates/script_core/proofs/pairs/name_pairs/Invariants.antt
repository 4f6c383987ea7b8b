-- `pairs` has the pairs before index `place`.
use Rattle.std.proofs.Common.{◌≡◌, take}
use Rattle.command_core.specs.PairsIn.{name_pairs_in}
use Rattle.script_core.proofs.pairs.name_pairs.Given as goal

abbrev pub invariant-loop-place : goal.invariant-loop-place
invariant-loop-place l = l.pairs.items ≡ take l.place (name_pairs_in l.names)
