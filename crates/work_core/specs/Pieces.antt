-- The part of a list that a range of indexes selects.
use Rattle.std.specs.Prelude.{ℕ, List, Option, Some, None, take, drop}
use Rattle.work_core.specs.declared.range.Range.{Range}

-- the items before an index, or all if there is none
abbrev pub piece_before : {X : Type 0} → Option ℕ → List X → List X
piece_before None xs = xs
piece_before (Some end) xs = take end xs

-- the items from an index on, or all if there is none
abbrev pub piece_from : {X : Type 0} → Option ℕ → List X → List X
piece_from None xs = xs
piece_from (Some start) xs = drop start xs

-- the items at the indexes of a range
abbrev pub items_within : {X : Type 0} → Range ℕ → List X → List X
items_within range xs = piece_from range.from (piece_before range.before xs)
