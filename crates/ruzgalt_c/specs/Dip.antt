-- The parts of rows, by number.
use Rattle.std.specs.Prelude.{◌≡◌, ℕ, ◌<◌, ℤ, List, length, All, Option}
use Rattle.std.specs.List.{HoldsAt}
use Rattle.dip_core.specs.declared.item.Item.{Item}
use Rattle.dip_core.specs.Division.{part_at, IsDip, IsInstantOf}
use Rattle.ruzgalt_c.specs.Rows.{AreRows, periods}

-- The number `k` is at the index of each item of part `k`.
abbrev pub AreNumbersOf : List (List Item) → List ℕ → ℕ → Type 0
AreNumbersOf division numbers k = All (λ x. HoldsAt (λ n. n ≡ k) numbers x.id) (part_at division k)

-- The numbers, the count and the instant of the rows' dip. There is only one dip, so only these numbers are right.
pub record IsDipOfRows (from to : List ℤ) (numbers : List ℕ) (count : ℕ) (instant : Option ℤ) : Type 0 where
  pub items : List Item
  pub rows : AreRows (periods from to) items
  pub division : List (List Item)
  pub dip : IsDip items division
  pub numbers_are : (k : ℕ) → k < length division → AreNumbersOf division numbers k
  pub count_is : count ≡ length division
  pub instant_is : IsInstantOf division instant
