-- The rows already visited have no values.
use Rattle.std.proofs.Common.{◌≡◌, [], All, take}
use Rattle.row_core.specs.declared.row.Row.{Row}
use Rattle.answer_core.proofs.row_values.are_bare.Given as goal

abbrev pub invariant-loop-place : goal.invariant-loop-place
invariant-loop-place l = All (λ (row : Row). row.values ≡ []) (take l.place l.rows)
