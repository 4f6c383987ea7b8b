-- Lists of steps of classes, and the sum of one class's lists.
use Rattle.std.specs.Prelude.{◌≡◌, ◌≢◌, ◌==◌, ◌+◌, ◌≤◌, ◌++◌, ℕ, if◌then◌else◌, Option, None, List, [], ◌∷◌, length, ℤ, Contains}
use Rattle.dip_core.specs.declared.item.Item.{Item}
use Rattle.merge_core.specs.declared.tally.Tally.{Tally}
use Rattle.merge_core.specs.Tallies.{IsTallyAt, both}
use Rattle.merge_core.specs.Steps.{tally_at}
use Rattle.round_core.specs.declared.class_steps.ClassSteps.{ClassSteps}
use Rattle.round_core.specs.Plateaus.{of_class}

-- A list's tally at `t` for a class; `None` if it is another class's list.
abbrev pub tally_for : ℕ → ClassSteps → ℤ → Option Tally
tally_for class list t = (if list.class == class then tally_at list.steps.steps t else None)

-- The tally of all lists of a class at `t`.
abbrev pub class_at : ℕ → List ClassSteps → ℤ → Option Tally
class_at class [] t = None
class_at class (l ∷ ls) t = both (tally_for class l t) (class_at class ls t)

-- The sum of the weights of all lists.
abbrev pub weight_of : List ClassSteps → ℕ
weight_of [] = 0
weight_of (l ∷ ls) = l.steps.weight + weight_of ls

-- The lists are in ascending order of class, from `least` on.
abbrev pub RisesFrom : ℕ → List ClassSteps → Type 0
RisesFrom least [] = Unit {0}
RisesFrom least (l ∷ ls) = (least ≤ l.class) × RisesFrom l.class ls

-- Some item is of the class.
pub record HasItem (items : List Item) (class : ℕ) : Type 0 where
  pub item : Item
  pub item_in : Contains items item
  pub class_is : item.class ≡ class

-- Each list is of the class of some item.
abbrev pub AreOfItems : List Item → List ClassSteps → Type 0
AreOfItems items [] = Unit {0}
AreOfItems items (l ∷ ls) = HasItem items l.class × AreOfItems items ls

-- The first list, if there is one, is of another class.
abbrev pub StartsOtherwise : ℕ → List ClassSteps → Type 0
StartsOtherwise class [] = Unit {0}
StartsOtherwise class (l ∷ ls) = class ≢ l.class

-- No two neighbours are of one class.
abbrev pub HaveNoNeighbours : List ClassSteps → Type 0
HaveNoNeighbours [] = Unit {0}
HaveNoNeighbours (l ∷ ls) = StartsOtherwise l.class ls × HaveNoNeighbours ls

-- At each instant, the lists of a class have the tally of that class's items. The sum of the weights is the number of
-- items, and there are no more lists than items.
pub record StandForAll (items : List Item) (lists : List ClassSteps) : Type 0 where
  pub tallies : (class : ℕ) (t : ℤ) → IsTallyAt (of_class class items) t (class_at class lists t)
  pub weight : weight_of lists ≡ length items
  pub few : length lists ≤ length items

-- The new lists have the same tallies as the old ones, class by class.
pub record IsRound (old new : List ClassSteps) : Type 0 where
  pub tallies : (class : ℕ) (t : ℤ) → class_at class new t ≡ class_at class old t
  pub weight : weight_of new ≡ weight_of old
  pub fewer : length new ≤ length old
  pub rises : (least : ℕ) → RisesFrom least old → RisesFrom least new

-- All lists are of the class.
abbrev pub AreOf : ℕ → List ClassSteps → Type 0
AreOf class [] = Unit {0}
AreOf class (l ∷ ls) = (l.class ≡ class) × AreOf class ls

-- The new lists are the old ones, followed by lists of the class that together have the items' tally at each instant.
-- The sum of their weights is the number of items, and there are no more of them than items.
pub record AddsSteps (class : ℕ) (items : List Item) (old new : List ClassSteps) : Type 0 where
  pub added : List ClassSteps
  pub split : new ≡ old ++ added
  pub own : AreOf class added
  pub tallies : (t : ℤ) → IsTallyAt items t (class_at class added t)
  pub weight : weight_of added ≡ length items
  pub few : length added ≤ length items

-- The lists of some items, in ascending order of class, with the tallies of all of them.
pub record AreStepLists (items : List Item) (lists : List ClassSteps) : Type 0 where
  pub stand : StandForAll items lists
  pub rise : RisesFrom 0 lists
  pub classes : AreOfItems items lists
