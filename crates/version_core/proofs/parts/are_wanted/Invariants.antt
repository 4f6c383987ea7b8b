use Rattle.std.proofs.Common.{◌≡◌, drop}
use Rattle.table_core.specs.Lent.{lent_row}
use Rattle.version_core.specs.Wanted.{are_wanted}
use Rattle.version_core.proofs.parts.are_wanted.Given as goal

-- the remaining columns decide
abbrev pub invariant-loop-column : goal.invariant-loop-column
invariant-loop-column l =
    are_wanted (drop l.column l.wanted) (drop l.column (lent_row l.row).values)
    ≡ are_wanted l.wanted (lent_row l.row).values
