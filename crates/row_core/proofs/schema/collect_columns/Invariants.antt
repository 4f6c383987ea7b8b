use Rattle.std.proofs.Common.{◌≡◌, take}
use Rattle.row_core.specs.Schema.{columns_of}
use Rattle.row_core.proofs.schema.collect_columns.Given as goal

-- the first pairs have become columns
abbrev pub invariant-loop-pair : goal.invariant-loop-pair
invariant-loop-pair l = l.columns.items ≡ columns_of (take l.pair-index l.pairs)
