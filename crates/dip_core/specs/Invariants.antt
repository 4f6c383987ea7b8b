-- The invariants of a division and a placer.
use Rattle.std.specs.Prelude.{◌≡◌, ℕ, ◌-◌, ◌*◌, ◌<◌, ◌≤◌, List, length, All, Option, slice_index_or}
use Rattle.dip_core.specs.declared.item.Item.{Item}
use Rattle.dip_core.specs.Item.{crowd, IsChain, HasDistinctIds, item_limit}
use Rattle.dip_core.specs.Division.{all_of, part_at, IsPlaced}
use Rattle.dip_core.specs.Placing.{IsGreatest}
use Rattle.dip_core.specs.Heap.{Endings, HoldLastEnds, IsHeap}

-- The last part's first item, which opened that part; `d` without parts.
abbrev pub opener : List (List Item) → Item → Item
opener parts d = slice_index_or (part_at parts (length parts - 1)) 0 d

-- The overlap count at the opener's start is at least the number of parts.
abbrev pub LastPartIsCrowded : List (List Item) → Type 0
LastPartIsCrowded parts =
    (d : Item) → 0 < length parts → length parts ≤ crowd (all_of parts) (opener parts d).period.from

-- The invariant of the parts at each moment.
pub record ArePlaced (parts : List (List Item)) : Type 0 where
  pub filled : All (λ part. 0 < length part) parts
  pub chained : All IsChain parts
  pub crowded : LastPartIsCrowded parts
  pub placed : HasDistinctIds (all_of parts) → IsPlaced parts

-- A placer's invariant. A placement takes at most 40 looks, since the number of parts has at most 20 binary digits.
pub record IsPlacing (parts : List (List Item)) (heap : Endings) (last : Option Item) (len : ℕ) : Type 0 where
  pub are_placed : ArePlaced parts
  pub ordered : IsHeap heap.ends
  pub last_ends : HoldLastEnds parts heap.ends
  pub greatest : IsGreatest parts last
  pub counted : len ≡ length (all_of parts)
  pub small : len ≤ item_limit
  pub few_looks : heap.looks ≤ 40 * len

-- A division's invariant.
pub record IsDivided (parts : List (List Item)) : Type 0 where
  pub are_placed : ArePlaced parts
  pub small : length (all_of parts) ≤ item_limit
