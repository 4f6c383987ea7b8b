-- Placing items one after another, in ascending order.
use Rattle.std.specs.Prelude.{◌≡◌, ◌⊎◌, ℕ, zero, suc, ◌+◌, ◌-◌, ◌≤◌, ℤ, ◌≤ℤ◌, ◌<ℤ◌, List, [], ◌∷◌, ◌++◌, length, All, Contains, Option, Some, MatchOption, option_map, slice_get}
use Rattle.dip_core.specs.declared.item.Item.{Item}
use Rattle.dip_core.specs.Item.{IsBelow}
use Rattle.dip_core.specs.Division.{all_of, part_at}

-- The contract view of a placer: its parts, the item placed last, the counted looks, and the number of looks ever
-- made. A look is a comparison of a last end with a start, or of two last ends and their part numbers. Looks of
-- placements that were refused memory aren't counted.
pub record Placing : Type 0 where
  pub parts : List (List Item)
  pub last : Option Item
  pub looks : ℕ
  pub all_looks : ℕ

-- The state after a refused placement: unchanged, except that one uncounted look may have been made.
pub record IsAsBefore (before after : Placing) : Type 0 where
  pub parts : after.parts ≡ before.parts
  pub last : after.last ≡ before.last
  pub looks : after.looks ≡ before.looks
  pub once : after.all_looks ≤ before.all_looks + 1

-- The end of the part's last item.
abbrev pub last_end : List Item → Option ℤ
last_end part = option_map (λ x. x.period.to) (slice_get part (length part - 1))

-- Part `k` has ended by `start`. Among such parts its last end is the earliest, and among those with that end its
-- number is the lowest.
pub record IsBestPart (parts : List (List Item)) (start : ℤ) (k : ℕ) : Type 0 where
  pub end : ℤ
  pub ends : last_end (part_at parts k) ≡ Some end
  pub over : end ≤ℤ start
  pub best : (j : ℕ) (f : ℤ) → last_end (part_at parts j) ≡ Some f → f ≤ℤ start → (end <ℤ f) ⊎ ((end ≡ f) × (k ≤ j))

-- Each part ends after `start`.
abbrev pub NoPartIsFree : List (List Item) → ℤ → Type 0
NoPartIsFree parts start = (j : ℕ) (f : ℤ) → last_end (part_at parts j) ≡ Some f → start <ℤ f

-- The part for an item that starts at `start`: the best of the parts that have ended, or a new one if none has.
abbrev pub IsPlaceFor : List (List Item) → ℤ → ℕ → Type 0
IsPlaceFor parts start k = IsBestPart parts start k ⊎ ((k ≡ length parts) × NoPartIsFree parts start)

-- The parts with `x` appended to part `k`, or in a new last part if `k` is past the last part.
abbrev pub added : List (List Item) → ℕ → Item → List (List Item)
added [] k x = (x ∷ []) ∷ []
added (part ∷ parts) zero x = (part ++ x ∷ []) ∷ parts
added (part ∷ parts) (suc k) x = part ∷ added parts k x

-- `last` is an item of the parts, and no item is above it. It is `None` only without parts.
abbrev pub IsGreatest : List (List Item) → Option Item → Type 0
IsGreatest parts last =
    MatchOption last (parts ≡ []) (λ z. Contains (all_of parts) z × All (λ y. IsBelow z y → ⊥) (all_of parts))
