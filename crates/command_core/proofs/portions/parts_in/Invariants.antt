-- The pairs before this one are settings.
use Rattle.std.proofs.Common.{◌≡◌}
use Rattle.command_core.specs.Lines.{fields_in}
use Rattle.command_core.specs.Portions.{parts_in}
use Rattle.command_core.proofs.PortionLemmas.{parts_from}
use Rattle.command_core.proofs.portions.parts_in.Given as goal

abbrev pub invariant-loop-pair : goal.invariant-loop-pair
invariant-loop-pair l = parts_in (fields_in l.line) ≡ parts_from l.pair (fields_in l.line)
