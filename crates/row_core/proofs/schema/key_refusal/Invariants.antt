use Rattle.std.proofs.Common.{◌≡◌, [], drop, take}
use Rattle.row_core.specs.Refusals.{first_of}
use Rattle.row_core.specs.Schema.{key_tests}
use Rattle.row_core.proofs.schema.key_refusal.Given as goal

-- the remaining names decide
abbrev pub invariant-loop-i : goal.invariant-loop-i
invariant-loop-i l =
    first_of (key_tests l.columns (take l.i l.names) (drop l.i l.names)) ≡ first_of (key_tests l.columns [] l.names)
