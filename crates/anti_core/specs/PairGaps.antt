-- The gaps of the pairs of parts, and the gaps of one left part against several right parts.
use Rattle.std.specs.Prelude.{◌≡◌, ℕ, ◌+◌, ◌<◌, ◌/◌, ◌%◌, List, length, slice_get, Some}
use Rattle.dip_core.specs.declared.item.Item.{Item}
use Rattle.dip_core.specs.Division.{part_at}
use Rattle.merge_core.specs.declared.gap.Gap.{Gap}
use Rattle.merge_core.specs.Gaps.{ListsGaps}

-- The gaps of the pairs of two divisions from number `first` on, by left part and then by right part.
abbrev pub AreGapsFrom : List (List Item) → List (List Item) → ℕ → List (List Gap) → Type 0
AreGapsFrom lefts rights first values = (i : ℕ) (gaps : List Gap) → slice_get values i ≡ Some gaps
    → ListsGaps (part_at lefts ((first + i) / length rights)) (part_at rights ((first + i) % length rights)) gaps

-- The `count` lists from index `from` on are the gaps of a part against each right part from number `start` on.
abbrev pub AreGapsAgainst : List Item → List (List Item) → ℕ → List (List Gap) → ℕ → ℕ → Type 0
AreGapsAgainst part rights start values from count = (i : ℕ) (gaps : List Gap) → i < count
    → slice_get values (from + i) ≡ Some gaps → ListsGaps part (part_at rights (start + i)) gaps
