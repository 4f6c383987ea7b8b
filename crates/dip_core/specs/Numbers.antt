-- Parts of items, given by a number for each item.
use Rattle.std.specs.Prelude.{◌≡◌, ◌==◌, ℕ, zero, suc, ◌<◌, cond, List, [], ◌∷◌, length, All, IsPermutation}
use Rattle.dip_core.specs.declared.item.Item.{Item}
use Rattle.dip_core.specs.Division.{all_of}
use Rattle.dip_core.specs.Invariants.{IsDivided}

-- The items with number `k`, in order. The numbers are listed in the order of the items.
abbrev pub items_numbered : List Item → List ℕ → ℕ → List Item
items_numbered [] ns k = []
items_numbered (x ∷ xs) [] k = []
items_numbered (x ∷ xs) (n ∷ ns) k = cond (n == k) (x ∷ items_numbered xs ns k) (items_numbered xs ns k)

-- `count` parts: the items with number `from`, those with the next number, and so on.
abbrev pub parts_numbered : List Item → List ℕ → ℕ → ℕ → List (List Item)
parts_numbered xs ns from zero = []
parts_numbered xs ns from (suc count) = items_numbered xs ns from ∷ parts_numbered xs ns (suc from) count

-- Each item has a number below `count`, and the parts with these numbers are a division as a placer makes it.
pub record DivideByNumbers (xs : List Item) (ns : List ℕ) (count : ℕ) : Type 0 where
  pub long : length ns ≡ length xs
  pub under : All (λ n. n < count) ns
  pub together : IsPermutation xs (all_of (parts_numbered xs ns 0 count))
  pub divided : IsDivided (parts_numbered xs ns 0 count)
