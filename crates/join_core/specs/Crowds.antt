-- How many items hold at once, from their starts and their ends.
use Rattle.std.specs.Prelude.{not, int_lt, ℕ, ◌+◌, ◌<◌, ◌≤◌, ℤ, List, IsPermutation, IsSorted, count_by, map}
use Rattle.std.specs.Ordering.{int_cmp}
use Rattle.dip_core.specs.declared.item.Item.{Item}

-- How many points are no later than the instant.
abbrev pub upto : List ℤ → ℤ → ℕ
upto points t = count_by (λ x. not (int_lt t x)) points

-- The starts of the items, and their ends.
abbrev pub starts_of : List Item → List ℤ
starts_of items = map (λ (x : Item). x.period.from) items

abbrev pub ends_of : List Item → List ℤ
ends_of items = map (λ (x : Item). x.period.to) items

-- The same points in ascending order.
pub record AreOrdered (points sorted : List ℤ) : Type 0 where
  pub same : IsPermutation points sorted
  pub rise : IsSorted int_cmp sorted

-- At no instant have more than `k` periods started and not ended, and at some instant `k` have.
pub record IsMostAtOnce (starts ends : List ℤ) (k : ℕ) : Type 0 where
  pub reached : 0 < k → (t : ℤ) × (k + upto ends t ≤ upto starts t)
  pub most : (t : ℤ) → upto starts t ≤ k + upto ends t
