use Rattle.std.proofs.Common.{◌≡◌, map, take}
use Rattle.row_core.proofs.schema.kinds_of.Given as goal

-- the list has the first kinds
abbrev pub invariant-loop-column : goal.invariant-loop-column
invariant-loop-column l = l.kinds.items ≡ map (λ column. column.kind) (take l.column-index l.columns)
