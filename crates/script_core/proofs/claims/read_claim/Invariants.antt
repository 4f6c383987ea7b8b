-- The claim has the parts of the records that the iterator has returned.
use Rattle.std.proofs.Common.{◌≡◌, ◌+◌, length}
use Rattle.command_core.specs.Lines.{lines_in}
use Rattle.script_core.specs.Effects.{claim_of}
use Rattle.script_core.proofs.Loading.{behind}
use Rattle.script_core.proofs.claims.read_claim.Given as goal

abbrev pub invariant-loop-place : goal.invariant-loop-place
invariant-loop-place l =
    (l.place + length l.line-iterator ≡ length (lines_in l.lines))
    × (claim_of l.number (lines_in l.lines) ≡ behind l.claim (claim_of (l.number + l.place) l.line-iterator))
