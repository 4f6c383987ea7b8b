use Rattle.std.proofs.Common.{◌≡◌, drop}
use Rattle.row_core.specs.Schema.{fits}
use Rattle.row_core.proofs.schema.values_fit.Given as goal

-- the remaining values decide
abbrev pub invariant-loop-i : goal.invariant-loop-i
invariant-loop-i l = fits (drop l.i l.columns) (drop l.i l.values) ≡ fits l.columns l.values
