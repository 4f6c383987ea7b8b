-- Tallies: the number of items, and the sum, minimum and maximum of their amounts.
use Rattle.std.specs.Prelude.{◌≡◌, ◌+◌, Option, Some, None, List, [], ◌∷◌, length, map, ℤ, pos, ◌+ℤ◌, ◌≤ℤ◌, Contains}
use Rattle.std.specs.List.{filter}
use Rattle.std.specs.Int.{int_min, int_max}
use Rattle.period_core.specs.Period.{holds_at}
use Rattle.dip_core.specs.declared.item.Item.{Item}
use Rattle.merge_core.specs.declared.tally.Tally.{Tally}

-- The items that hold `t`.
abbrev pub holding : List Item → ℤ → List Item
holding items t = filter (λ (x : Item). holds_at t x.period) items

-- The amounts of the items, in order.
abbrev pub amounts : List Item → List ℤ
amounts items = map (λ (x : Item). x.amount) items

-- The sum of some numbers.
abbrev pub total : List ℤ → ℤ
total [] = pos 0
total (a ∷ rest) = a +ℤ total rest

-- The tally of one or more items.
pub record IsTally (items : List Item) (tally : Tally) : Type 0 where
  pub count : tally.count ≡ length items
  pub sum : tally.sum ≡ total (amounts items)
  pub min_in : Contains (amounts items) tally.min
  pub min_least : (a : ℤ) → Contains (amounts items) a → tally.min ≤ℤ a
  pub max_in : Contains (amounts items) tally.max
  pub max_greatest : (a : ℤ) → Contains (amounts items) a → a ≤ℤ tally.max

-- The tally of the items that hold `t`, or `None` if no item does.
abbrev pub IsTallyAt : List Item → ℤ → Option Tally → Type 0
IsTallyAt items t None = holding items t ≡ []
IsTallyAt items t (Some tally) = IsTally (holding items t) tally

-- The tally of two tallies' items together.
abbrev pub both : Option Tally → Option Tally → Option Tally
both None b = b
both (Some a) None = Some a
both (Some a) (Some b) =
    Some (record {
      count = a.count + b.count;
      sum = a.sum +ℤ b.sum;
      min = int_min a.min b.min;
      max = int_max a.max b.max;
    })
