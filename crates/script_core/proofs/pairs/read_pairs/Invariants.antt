-- The values belong to the pairs before index `place`.
use Rattle.std.proofs.Common.{◌≡◌, drop}
use Rattle.command_core.specs.PairsIn.{pairs_in}
use Rattle.script_core.specs.Effects.{pairs_read}
use Rattle.script_core.proofs.Loading.{behind}
use Rattle.script_core.proofs.pairs.read_pairs.Given as goal

abbrev pub invariant-loop-place : goal.invariant-loop-place
invariant-loop-place l =
    pairs_read l.schema (pairs_in l.texts) ≡ behind l.pairs (pairs_read l.schema (drop l.place (pairs_in l.texts)))
