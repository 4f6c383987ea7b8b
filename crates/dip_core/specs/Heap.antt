-- The heap of the last ends of a placer's parts. Its root is the end of the part that ends first.
use Rattle.std.specs.Prelude.{◌≡◌, ◌≢◌, ◌==◌, ◌⊎◌, ℕ, ◌+◌, ◌*◌, ◌<◌, ◌≤◌, ℤ, ◌≤ℤ◌, ◌<ℤ◌, List, length, All, Some, count_by, slice_index_or}
use Rattle.std.specs.List.{HoldsAt}
use Rattle.dip_core.specs.declared.item.Item.{Item}
use Rattle.dip_core.specs.Division.{part_at}
use Rattle.dip_core.specs.Placing.{last_end, added, IsPlaceFor}

-- The end of a part's last item, and the part's number.
pub record Ending : Type 0 where
  pub end : ℤ
  pub number : ℕ

-- The contract view of last ends: their list, the counted looks, and the number of looks ever made.
pub record Endings : Type 0 where
  pub ends : List Ending
  pub looks : ℕ
  pub all_looks : ℕ

-- Between the two states, all looks made were counted, and none was taken back.
abbrev pub CountsEachLook : Endings → Endings → Type 0
CountsEachLook before after = after.all_looks + before.looks ≡ before.all_looks + after.looks

-- `x` comes no later than `y`: it ends earlier, or at the same instant and its part's number is at most `y`'s.
abbrev pub ComesFirst : Ending → Ending → Type 0
ComesFirst x y = (x.end <ℤ y.end) ⊎ ((x.end ≡ y.end) × (x.number ≤ y.number))

-- The end at index `i` comes no later than the one at index `j`.
abbrev pub ComesFirstAt : List Ending → ℕ → ℕ → Type 0
ComesFirstAt ends i j = (d : Ending) → ComesFirst (slice_index_or ends i d) (slice_index_or ends j d)

-- Each end comes no later than its two children.
abbrev pub IsHeap : List Ending → Type 0
IsHeap ends =
    (p k : ℕ) (d : Ending) → p * 2 + 1 ≤ k → k ≤ p * 2 + 2 → k < length ends
    → ComesFirst (slice_index_or ends p d) (slice_index_or ends k d)

-- The children of index `j` come no earlier than the parent of `j`.
abbrev pub IsHeapAcross : List Ending → ℕ → Type 0
IsHeapAcross ends j =
    (p k : ℕ) (d : Ending) → p * 2 + 1 ≤ j → j ≤ p * 2 + 2 → j * 2 + 1 ≤ k → k ≤ j * 2 + 2 → k < length ends
    → ComesFirst (slice_index_or ends p d) (slice_index_or ends k d)

-- A heap, except that the end at index `j` may come after its children.
pub record IsHeapButBelow (ends : List Ending) (j : ℕ) : Type 0 where
  pub others : (p k : ℕ) (d : Ending) → p ≢ j → p * 2 + 1 ≤ k → k ≤ p * 2 + 2 → k < length ends
      → ComesFirst (slice_index_or ends p d) (slice_index_or ends k d)
  pub across : IsHeapAcross ends j

-- A heap, except that the end at index `j` may come before its parent.
pub record IsHeapButAbove (ends : List Ending) (j : ℕ) : Type 0 where
  pub others : (p k : ℕ) (d : Ending) → k ≢ j → p * 2 + 1 ≤ k → k ≤ p * 2 + 2 → k < length ends
      → ComesFirst (slice_index_or ends p d) (slice_index_or ends k d)
  pub across : IsHeapAcross ends j

-- The end at index `c` comes no later than the two children of index `j`.
abbrev pub ComesFirstBelow : List Ending → ℕ → ℕ → Type 0
ComesFirstBelow ends j c =
    (k : ℕ) (d : Ending) → j * 2 + 1 ≤ k → k ≤ j * 2 + 2 → k < length ends
    → ComesFirst (slice_index_or ends c d) (slice_index_or ends k d)

-- The first end comes no later than any other. It belongs to part `k`, which has ended by `start`.
pub record IsFirstOver (ends : List Ending) (start : ℤ) (k : ℕ) : Type 0 where
  pub some : 0 < length ends
  pub first : (j : ℕ) (d : Ending) → j < length ends → ComesFirst (slice_index_or ends 0 d) (slice_index_or ends j d)
  pub number : HoldsAt (λ e. e.number ≡ k) ends 0
  pub over : HoldsAt (λ e. e.end ≤ℤ start) ends 0

-- The ends are the last ends of the parts, one for each part.
pub record HoldLastEnds (parts : List (List Item)) (ends : List Ending) : Type 0 where
  pub long : length ends ≡ length parts
  pub right : All (λ e. last_end (part_at parts e.number) ≡ Some e.end) ends
  pub each : (k : ℕ) → k < length parts → count_by (λ e. e.number == k) ends ≡ 1

-- Part `k` is the one for an item that starts at `start`, in all parts with these last ends.
abbrev pub IsPlaceByEnds : List Ending → ℤ → ℕ → Type 0
IsPlaceByEnds ends start k = (parts : List (List Item)) → HoldLastEnds parts ends → IsPlaceFor parts start k

-- Part `k` is a new one, or the part whose end is the first.
abbrev pub IsNewOrFirst : List Ending → ℕ → Type 0
IsNewOrFirst ends k = (k ≡ length ends) ⊎ ((0 < length ends) × HoldsAt (λ e. e.number ≡ k) ends 0)

-- In all parts with the last ends `old`, if part `k` gets an item that ends at `end`, the last ends are `new`.
abbrev pub GetsEnd : List Ending → List Ending → ℕ → ℤ → Type 0
GetsEnd old new k end =
    (parts : List (List Item)) (x : Item) → x.period.to ≡ end → HoldLastEnds parts old
    → HoldLastEnds (added parts k x) new
