-- Items clipped to a span of instants, and the constant intervals of both sides of an instant, joined.
use Rattle.std.specs.Prelude.{◌≡◌, ◌⊎◌, ◌↔◌, ◌≤◌, ℕ, List, [], ◌∷◌, ◌++◌, length, ℤ, ◌<ℤ◌, ◌≤ℤ◌, All, Contains, IfSome}
use Rattle.period_core.specs.Period.{Holds}
use Rattle.period_core.specs.declared.period.Period.{Period}
use Rattle.dip_core.specs.declared.item.Item.{Item}
use Rattle.work_core.specs.declared.range.Range.{Range}
use Rattle.merge_core.specs.Tallies.{amounts, holding}
use Rattle.round_core.specs.ClassLists.{HasItem}
use Rattle.round_core.specs.Closing.{Continues, IsJoined}
use Rattle.round_core.specs.Plateaus.{ArePlateaus}
use Rattle.round_core.specs.declared.measure.Measure.{Measure}
use Rattle.round_core.specs.declared.plateau.Plateau.{Plateau}

-- The span has begun at the instant.
abbrev pub IsFrom : Range ℤ → ℤ → Type 0
IsFrom span t = IfSome span.from (λ from. from ≤ℤ t)

-- The span hasn't ended at the instant.
abbrev pub IsBefore : Range ℤ → ℤ → Type 0
IsBefore span t = IfSome span.before (λ end. t <ℤ end)

-- The span contains the instant.
abbrev pub InSpan : Range ℤ → ℤ → Type 0
InSpan span t = IsFrom span t × IsBefore span t

-- The period holds no instant of the span.
abbrev pub Misses : Range ℤ → Period → Type 0
Misses span period = (t : ℤ) → Holds period t → InSpan span t → ⊥

-- `part` is the period clipped to the span.
abbrev pub IsPartWithin : Range ℤ → Period → Period → Type 0
IsPartWithin span period part = (t : ℤ) → Holds part t ↔ (Holds period t × InSpan span t)

-- `cut` is the item clipped to the span.
pub record IsWithin (span : Range ℤ) (x cut : Item) : Type 0 where
  pub amount : cut.amount ≡ x.amount
  pub class_is : cut.class ≡ x.class
  pub holds : IsPartWithin span x.period cut.period

-- `cut` are the items clipped to the span: at each of its instants they have the same amounts, and at other instants
-- none holds. They are no more than the items, and of the same classes.
pub record AreWithin (span : Range ℤ) (items cut : List Item) : Type 0 where
  pub same : (t : ℤ) → InSpan span t → amounts (holding cut t) ≡ amounts (holding items t)
  pub none : (t : ℤ) → (InSpan span t → ⊥) → holding cut t ≡ []
  pub few : length cut ≤ length items
  pub own : (x : Item) → Contains cut x → HasItem items x.class

-- The last interval of one list, and the first of the other, which continues it: both as one, with the intervals
-- before and after them.
pub record IsJoint (early late : List Plateau) (both : Plateau) : Type 0 where
  pub front : List Plateau
  pub last : Plateau
  pub first : Plateau
  pub back : List Plateau
  pub early_is : early ≡ front ++ last ∷ []
  pub late_is : late ≡ first ∷ back
  pub continues : Continues last first
  pub joined : IsJoined last first both

-- The second list's first interval doesn't continue the first list's last one.
abbrev pub HaveNoJoint : List Plateau → List Plateau → Type 0
HaveNoJoint early late = (front back : List Plateau) (last first : Plateau) → early ≡ front ++ last ∷ []
    → late ≡ first ∷ back → Continues last first → ⊥

-- Both lists, with the last interval of the first and the first of the second as one.
pub record AreJoined (early late rows : List Plateau) : Type 0 where
  pub both : Plateau
  pub joint : IsJoint early late both
  pub rows_are : rows ≡ joint.front ++ both ∷ joint.back

-- Both lists as they are.
pub record AreApartAt (early late rows : List Plateau) : Type 0 where
  pub off : HaveNoJoint early late
  pub rows_are : rows ≡ early ++ late

-- Both lists. If the second list's first interval continues the first list's last one, they are one.
abbrev pub AreSpliced : List Plateau → List Plateau → List Plateau → Type 0
AreSpliced early late rows = AreJoined early late rows ⊎ AreApartAt early late rows

-- All items are of one class.
pub record AreOfOneClass (items : List Item) : Type 0 where
  pub class : ℕ
  pub own : All (λ (x : Item). x.class ≡ class) items

-- The constant intervals of the items, clipped to a span.
pub record ArePlateausWithin (span : Range ℤ) (measure : Measure) (items : List Item) (plateaus : List Plateau) : Type 0 where
  pub cut : List Item
  pub within : AreWithin span items cut
  pub all : ArePlateaus measure cut plateaus
