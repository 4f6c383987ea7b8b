use Rattle.std.proofs.Common.{◌≡◌, map, take}
use Rattle.draft_core.specs.Columns.{kind_of_column}
use Rattle.draft_core.proofs.columns.Columns.with_room.Given as goal

-- there is an empty column for each of the first kinds
abbrev pub invariant-loop-kind : goal.invariant-loop-kind
invariant-loop-kind l = map kind_of_column l.values.items ≡ take l.kind-index l.kinds
