use Rattle.std.proofs.Common.{◌≡◌, take}
use Rattle.row_core.specs.Schema.{keyed}
use Rattle.row_core.proofs.schema.keyed_columns.Given as goal

-- the list has the first columns
abbrev pub invariant-loop-column : goal.invariant-loop-column
invariant-loop-column l = l.items.items ≡ keyed (take l.column-index l.columns) l.names
