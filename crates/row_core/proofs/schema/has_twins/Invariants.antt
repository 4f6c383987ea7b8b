use Rattle.std.proofs.Common.{◌≡◌, drop}
use Rattle.row_core.specs.Schema.{has_twins}
use Rattle.row_core.proofs.schema.has_twins.Given as goal

-- the remaining pairs decide
abbrev pub invariant-loop-i : goal.invariant-loop-i
invariant-loop-i l = has_twins (drop l.i l.pairs) ≡ has_twins l.pairs
