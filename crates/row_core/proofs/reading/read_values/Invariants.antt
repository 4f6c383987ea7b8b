use Rattle.std.proofs.Common.{◌≡◌, drop, ◌++◌}
use Rattle.row_core.specs.Reading.{values_of}
use Rattle.row_core.specs.Refusals.{map_ok}
use Rattle.row_core.proofs.reading.read_values.Given as goal

-- all values are those read already, followed by the remaining ones
abbrev pub invariant-loop-i : goal.invariant-loop-i
invariant-loop-i g l =
    let fields = drop 2 (g.L.Fields.fields l.fields) in
    values_of l.columns fields ≡ map_ok (λ rest. l.values.items ++ rest)
    (values_of (drop l.i l.columns) (drop l.i fields))
