use Rattle.std.proofs.Common.{◌≡◌, map, take}
use Rattle.draft_core.specs.Columns.{kind_of_column}
use Rattle.draft_core.proofs.columns.are_like.Given as goal

-- the first columns are of the kinds
abbrev pub invariant-loop-i : goal.invariant-loop-i
invariant-loop-i l = map kind_of_column (take l.i l.others) ≡ map kind_of_column (take l.i l.columns)
