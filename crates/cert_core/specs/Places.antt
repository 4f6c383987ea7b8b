-- The indices of the items for some ids, and marks at indices.
use Rattle.std.specs.Prelude.{◌≡◌, ℕ, ◌+◌, ◌<◌, Bool, true, false, List, length, map, All, Contains, slice_index, slice_index_or}
use Rattle.std.specs.List.{AllAdjacentBelow}
use Rattle.period_core.specs.Period.{Overlap}
use Rattle.dip_core.specs.declared.item.Item.{Item}

-- The id of the item at index `p`.
abbrev pub id_at : List Item → ℕ → ℕ
id_at items p = slice_index (map (λ x. x.id) items) p

-- `places` are the indices of the items for the ids, one by one.
pub record ArePlaces (items : List Item) (ids places : List ℕ) : Type 0 where
  pub within : All (λ p. p < length items) places
  pub named : map (id_at items) places ≡ ids

-- The items have the ids, one by one.
pub record AreNamed (items : List Item) (ids : List ℕ) (taken : List Item) : Type 0 where
  pub members : All (Contains items) taken
  pub named : map (λ x. x.id) taken ≡ ids

-- The marks are exactly at the given indices.
pub record AreMarks (places : List ℕ) (marks : List Bool) : Type 0 where
  pub marked : (p : ℕ) → p < length marks → slice_index_or marks p false ≡ true → Contains places p
  pub each : All (λ p. (p < length marks) × (slice_index_or marks p false ≡ true)) places

-- `p` is the first index without a mark.
pub record IsFirstUnmarked (marks : List Bool) (p : ℕ) : Type 0 where
  pub within : p < length marks
  pub unmarked : slice_index_or marks p true ≡ false
  pub first : (q : ℕ) → q < p → slice_index_or marks q false ≡ true

-- `a` and `b` are the ids of the first two neighbours that overlap.
pub record IsFirstPair (items : List Item) (a b : ℕ) : Type 0 where
  pub place : ℕ
  pub within : place + 1 < length items
  pub ids : (d : Item) → ((slice_index_or items place d).id ≡ a) × ((slice_index_or items (place + 1) d).id ≡ b)
  pub overlap : (d : Item) → Overlap (slice_index_or items place d).period (slice_index_or items (place + 1) d).period
  pub first : AllAdjacentBelow (λ x y. Overlap x.period y.period → ⊥) items (place + 1)
