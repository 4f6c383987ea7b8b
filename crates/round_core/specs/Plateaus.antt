-- The constant intervals of the items of each class.
use Rattle.std.specs.Prelude.{◌≡◌, ◌==◌, ◌⊎◌, ℕ, ◌<◌, Some, List, ℤ, pos, ◌<ℤ◌}
use Rattle.std.specs.List.{filter}
use Rattle.dip_core.specs.declared.item.Item.{Item}
use Rattle.list_core.specs.Wanted.{IsListOf}
use Rattle.merge_core.specs.declared.tally.Tally.{Tally}
use Rattle.merge_core.specs.Gaps.{IsMaximal}
use Rattle.merge_core.specs.Tallies.{IsTallyAt}
use Rattle.round_core.specs.declared.measure.Measure.{Measure}
use Rattle.round_core.specs.declared.measure.Measure.TheVariants.{Count, Sum, Min, Max}
use Rattle.round_core.specs.declared.plateau.Plateau.{Plateau}

-- The measured value of a tally.
abbrev pub measured : Measure → Tally → ℤ
measured Count tally = pos tally.count
measured Sum tally = tally.sum
measured Min tally = tally.min
measured Max tally = tally.max

-- The items of the class.
abbrev pub of_class : ℕ → List Item → List Item
of_class class items = filter (λ (x : Item). x.class == class) items

-- Some items hold `t`, and `value` is their measured value.
pub record HasValue (measure : Measure) (items : List Item) (value t : ℤ) : Type 0 where
  pub tally : Tally
  pub is : IsTallyAt items t (Some tally)
  pub gives : measured measure tally ≡ value

-- A constant interval: a class with a maximal period in which its items have the measured value.
pub record IsPlateau (measure : Measure) (items : List Item) (plateau : Plateau) : Type 0 where
  pub maximal : IsMaximal (HasValue measure (of_class plateau.class items) plateau.value) plateau.period

-- The order by class and start.
abbrev pub PlateauBefore : Plateau → Plateau → Type 0
PlateauBefore a b = (a.class < b.class) ⊎ ((a.class ≡ b.class) × (a.period.from <ℤ b.period.from))

-- All constant intervals of some items, each once, by class and start.
abbrev pub ArePlateaus : Measure → List Item → List Plateau → Type 0
ArePlateaus measure items plateaus = IsListOf PlateauBefore (IsPlateau measure items) plateaus
