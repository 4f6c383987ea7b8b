use Rattle.std.proofs.Common.{◌≡◌, map, take}
use Rattle.draft_core.specs.Columns.{kind_of_column}
use Rattle.row_core.specs.Value.{kind_of}
use Rattle.draft_core.proofs.columns.are_of.Given as goal

-- the first values are of the kinds
abbrev pub invariant-loop-i : goal.invariant-loop-i
invariant-loop-i l = map kind_of (take l.i l.values) ≡ map kind_of_column (take l.i l.columns)
