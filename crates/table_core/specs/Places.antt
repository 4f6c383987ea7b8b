-- The rows of a list at some indexes.
use Rattle.std.specs.Prelude.{ℕ, ◌<◌, List, All, Option, Some, None, IfSome, length, slice_get}
use Rattle.std.specs.Global.{Vec}
use Rattle.std.specs.List.{filter_map}
use Rattle.row_core.specs.declared.row.Row.{Row}

-- the rows at these indexes, in their order
abbrev pub at_places : List ℕ → List Row → List Row
at_places places rows = filter_map (slice_get rows) places

-- the rows at the indexes, or all rows without indexes
abbrev pub shown_at : Option (Vec ℕ) → List Row → List Row
shown_at None rows = rows
shown_at (Some places) rows = at_places places.items rows

-- each index is a row's
abbrev pub AreWithin : Option (Vec ℕ) → List Row → Type 0
AreWithin places rows = IfSome places (λ p. All (λ place. place < length rows) p.items)
