-- The exact number of cursor advances of a merge of two parts.
use Rattle.std.specs.Prelude.{◌+◌, ℕ, List, length, int_lt, count_by}
use Rattle.std.specs.List.{list_any}
use Rattle.dip_core.specs.declared.item.Item.{Item}
use Rattle.merge_core.specs.Sweep.{has_ended}

-- How many items end at or before the end of some other item.
abbrev pub ended_by : List Item → List Item → ℕ
ended_by others items =
    count_by (λ (x : Item). list_any (λ (y : Item). has_ended y.period.to x) others) items

-- How many items end before the end of some other item.
abbrev pub ended_before : List Item → List Item → ℕ
ended_before others items =
    count_by (λ (x : Item). list_any (λ (y : Item). int_lt x.period.to y.period.to) others) items

-- For hits, items are passed in ascending order of end, the left one first if both end together, until one side is
-- passed. So these are each left item that ends at or before the end of some right item, and each right item that ends
-- before the end of some left item.
abbrev pub advances_of : List Item → List Item → ℕ
advances_of left right = ended_by right left + ended_before left right

-- For gaps, each left item is passed, and each right item that ends at or before the end of some left item.
abbrev pub gap_advances_of : List Item → List Item → ℕ
gap_advances_of left right = length left + ended_by left right
