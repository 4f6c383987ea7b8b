use Rattle.std.proofs.Common.{◌≡◌, drop, map}
use Rattle.draft_core.specs.Columns.{kind_of_column, kinds_fit}
use Rattle.draft_core.proofs.columns.kinds_fit.Given as goal

-- the remaining columns decide
abbrev pub invariant-loop-i : goal.invariant-loop-i
invariant-loop-i l =
    kinds_fit (drop l.i l.columns) (drop l.i (map kind_of_column l.values))
    ≡ kinds_fit l.columns (map kind_of_column l.values)
