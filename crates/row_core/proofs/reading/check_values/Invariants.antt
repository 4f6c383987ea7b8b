use Rattle.std.proofs.Common.{◌≡◌, drop}
use Rattle.std.specs.Result.{result_err}
use Rattle.row_core.specs.Reading.{values_of}
use Rattle.row_core.proofs.reading.check_values.Given as goal

-- the remaining fields decide
abbrev pub invariant-loop-i : goal.invariant-loop-i
invariant-loop-i g l =
    let fields = drop 2 (g.L.Fields.fields l.fields) in
    result_err (values_of l.columns fields) ≡ result_err (values_of (drop l.i l.columns) (drop l.i fields))
