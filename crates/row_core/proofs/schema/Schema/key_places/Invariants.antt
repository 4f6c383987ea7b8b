use Rattle.std.proofs.Common.{◌≡◌, take}
use Rattle.row_core.specs.Schema.{key_of}
use Rattle.row_core.proofs.schema.Schema.key_places.Given as goal

-- the list has the first indexes
abbrev pub invariant-loop-i : goal.invariant-loop-i
invariant-loop-i l = l.places.items ≡ take l.i (key_of l.self)
