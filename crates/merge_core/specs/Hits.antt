-- The periods that items of equal class of two parts share, and bounds on the cursor advances that find them.
use Rattle.std.specs.Prelude.{◌≡◌, ◌↔◌, ◌⊎◌, ◌+◌, ◌++◌, ◌≤◌, ◌<ℤ◌, ◌≤ℤ◌, ℕ, ℤ, List, length, map, min, drop, Contains}
use Rattle.period_core.specs.declared.period.Period.{Period}
use Rattle.period_core.specs.Period.{Holds}
use Rattle.dip_core.specs.declared.item.Item.{Item}
use Rattle.list_core.specs.Wanted.{IsListOf}
use Rattle.merge_core.specs.declared.hit.Hit.{Hit}

-- `p` holds exactly the instants that both `a` and `b` hold.
abbrev pub IsShared : Period → Period → Period → Type 0
IsShared a b p = (t : ℤ) → Holds p t ↔ (Holds a t × Holds b t)

-- A left item, a right item of equal class, and the period that both share.
pub record IsHit (left right : List Item) (hit : Hit) : Type 0 where
  pub left_in : Contains left hit.left
  pub right_in : Contains right hit.right
  pub matches : hit.left.class ≡ hit.right.class
  pub shared : IsShared hit.left.period hit.right.period hit.period

-- The order of hits, by start.
abbrev pub HitStartsBefore : Hit → Hit → Type 0
HitStartsBefore a b = a.period.from <ℤ b.period.from

-- The new list is the old one, followed by the values for all hits of both parts, in ascending order of the hits'
-- starts.
pub record AddsHits {T : Type 0} (from_hit : Hit → T) (left right : List Item) (old new : List T) : Type 0 where
  pub hits : List Hit
  pub split : new ≡ old ++ map from_hit hits
  pub all : IsListOf HitStartsBefore (IsHit left right) hits

-- The bounds of `n` advances: at least the length of the shorter part, at most the length of both.
pub record AreAdvances (left right : List Item) (n : ℕ) : Type 0 where
  pub at_least : min (length left) (length right) ≤ n
  pub at_most : n ≤ length left + length right

-- The item that ends first is passed, the left one if both end together. The other side is unchanged.
abbrev pub PassesFirst : Item → Item → (left right left_after right_after : List Item) → Type 0
PassesFirst x y left right left_after right_after =
    ((x.period.to ≤ℤ y.period.to) × (left_after ≡ drop 1 left) × (right_after ≡ right))
    ⊎ ((y.period.to <ℤ x.period.to) × (left_after ≡ left) × (right_after ≡ drop 1 right))
