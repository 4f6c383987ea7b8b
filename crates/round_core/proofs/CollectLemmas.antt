-- Lists of different classes have the same constant intervals as their items.
use Rattle.std.proofs.Common.{◌≡◌, ◌<◌, ◌≤◌, ℕ, List, [], ◌∷◌, ◌++◌, cond, Option, Some, None, inl, inr, refl, sym, subst, ap, ◌∙◌, arith, append-nil, append_assoc}
use Rattle.std.proofs.lemmas.Option.{none-some}
use Rattle.std.specs.Prelude.{ℤ, pos, Contains}
use Rattle.std.proofs.lemmas.Int.{ints}
use Rattle.std.proofs.lemmas.Bool.{cases_eq, eq-eqb, ne_eqb}
use Rattle.dip_core.specs.declared.item.Item.{Item}
use Rattle.list_core.specs.Wanted.{IsListOf, AddsAll}
use Rattle.list_core.proofs.RisingLemmas.{Contains-head, Contains-cons, Contains-cons_cases, Contains-none}
use Rattle.list_core.proofs.WantedLemmas.{IsListOf-append, IsListOf-none, IsListOf-same}
use Rattle.merge_core.specs.declared.tally.Tally.{Tally}
use Rattle.merge_core.specs.declared.step.Step.{Step}
use Rattle.merge_core.specs.Steps.{tally_at}
use Rattle.merge_core.specs.Tallies.{holding, amounts, IsTally, IsTallyAt, both}
use Rattle.merge_core.proofs.SharedLemmas.{first_held}
use Rattle.merge_core.proofs.SweepLemmas.{IsMaximal-same}
use Rattle.merge_core.proofs.CombineLemmas.{both_none}
use Rattle.round_core.specs.declared.class_steps.ClassSteps.{ClassSteps}
use Rattle.round_core.specs.declared.measure.Measure.{Measure}
use Rattle.round_core.specs.declared.measure.Measure.TheVariants.{Count, Sum, Min, Max}
use Rattle.round_core.specs.declared.plateau.Plateau.{Plateau}
use Rattle.round_core.specs.Plateaus.{of_class, measured, HasValue, IsPlateau, PlateauBefore, ArePlateaus}
use Rattle.round_core.specs.ClassLists.{class_at, RisesFrom, HaveNoNeighbours, StandForAll, IsRound}
use Rattle.round_core.specs.Closing.{GivesValue, IsStepPlateau, IsPlateauOfSome}

-- ---- the lists are of different classes

-- Each class is below the classes of all later lists.
abbrev pub ClassesRise : List ClassSteps → Type 0
ClassesRise [] = Unit {0}
ClassesRise (l ∷ ls) = ((m : ClassSteps) → Contains ls m → l.class < m.class) × ClassesRise ls

none_below : (least : ℕ) (ls : List ClassSteps) (m : ClassSteps) → RisesFrom least ls → Contains ls m → least ≤ m.class
none_below least [] m r h = absurd (Contains-none m h)
none_below least (l ∷ ls) m r h = elim (Contains-cons_cases l ls m h) [
  | inl e ↦ (let c : l.class ≡ m.class = ap (λ (v : ClassSteps). v.class) e in let a = r.0 in omega (arith, c, a))
  | inr k ↦ (let b = none_below l.class ls m r.1 k in let a = r.0 in omega (arith, a, b))
]

all_above : (l : ClassSteps) (ls : List ClassSteps) (m : ClassSteps) → RisesFrom l.class ls → HaveNoNeighbours (l ∷ ls)
    → Contains ls m → l.class < m.class
all_above l [] m r n h = absurd (Contains-none m h)
all_above l (k ∷ ls) m r n h =
    let near : k.class ≤ m.class = none_below k.class (k ∷ ls) m (omega arith, r.1) h in
    let a : l.class ≤ k.class = r.0 in
    elim (cases_eq l.class k.class) [
      | inl same ↦ absurd (n.0 same)
      | inr other ↦ grind (arith)
    ]

pub classes_rise : (least : ℕ) (ls : List ClassSteps) → RisesFrom least ls → HaveNoNeighbours ls → ClassesRise ls
classes_rise least [] r n = tt
classes_rise least (l ∷ ls) r n = (λ m h. all_above l ls m r.1 n h, classes_rise l.class ls r.1 n.1)

none_at : (class : ℕ) (ls : List ClassSteps) (t : ℤ) → ((m : ClassSteps) → Contains ls m → m.class ≡ class → ⊥)
    → class_at class ls t ≡ None
none_at class [] t none = refl
none_at class (l ∷ ls) t none =
    ap (λ b. both (cond b (tally_at l.steps.steps t) None) (class_at class ls t))
    (ne_eqb l.class class (none l (Contains-head l ls)))
    ∙ none_at class ls t (λ m h. none m (Contains-cons l ls m h))

-- the tally of a class is the tally of its list
own_at : (ls : List ClassSteps) (l : ClassSteps) (t : ℤ) → ClassesRise ls → Contains ls l
    → class_at l.class ls t ≡ tally_at l.steps.steps t
own_at [] l t r h = absurd (Contains-none l h)
own_at (k ∷ ls) l t r h = elim (Contains-cons_cases k ls l h) [
  | inl e ↦ subst (λ (v : ClassSteps). class_at v.class (k ∷ ls) t ≡ tally_at v.steps.steps t) e (
      ap (λ b. both (cond b (tally_at k.steps.steps t) None) (class_at k.class ls t)) (eq-eqb k.class k.class refl)
      ∙ ap (both (tally_at k.steps.steps t))
      (none_at k.class ls t (λ m member same. let a = r.0 m member in omega (arith, a, same)))
      ∙ both_none (tally_at k.steps.steps t))
  | inr later ↦
      ap (λ b. both (cond b (tally_at k.steps.steps t) None) (class_at l.class ls t))
      (ne_eqb k.class l.class (λ same. let a = r.0 l later in omega (arith, a, same)))
      ∙ own_at ls l t r.1 later
]

-- a class with a tally has a list
list_of_class : (class : ℕ) (ls : List ClassSteps) (t : ℤ) (a : Tally) → class_at class ls t ≡ Some a
    → (l : ClassSteps) × Contains ls l × (l.class ≡ class)
list_of_class class [] t a e = absurd (none-some a e)
list_of_class class (l ∷ ls) t a e = elim (cases_eq l.class class) [
  | inl same ↦ (l, Contains-head l ls, same)
  | inr other ↦
      let f : class_at class ls t ≡ Some a =
      sym (ap (λ b. both (cond b (tally_at l.steps.steps t) None) (class_at class ls t)) (ne_eqb l.class class other))
      ∙ e in
      let m = list_of_class class ls t a f in
      (m.0, Contains-cons l ls m.0 m.1, m.2)
]

-- ---- list by list

-- The constant intervals until now, followed by the remaining lists' ones, are all of them.
pub record IsCollecting (measure : Measure) (all left : List ClassSteps) (rows : List Plateau) : Type 0 where
  pub goes_on : (rest : List Plateau) → IsListOf PlateauBefore (IsPlateauOfSome measure left) rest
      → IsListOf PlateauBefore (IsPlateauOfSome measure all) (rows ++ rest)
  pub rise : ClassesRise left

pub collecting_start : (measure : Measure) (all : List ClassSteps) → RisesFrom 0 all → HaveNoNeighbours all
    → IsCollecting measure all all []
collecting_start measure all r n = record { goes_on = λ rest h. h; rise = classes_rise 0 all r n }

-- the constant intervals of the first list, followed by the others' ones
first_and_others : (measure : Measure) (l : ClassSteps) (ls : List ClassSteps) (added rest : List Plateau)
    → ((m : ClassSteps) → Contains ls m → l.class < m.class)
    → IsListOf PlateauBefore (IsStepPlateau measure l.class l.steps.steps) added
    → IsListOf PlateauBefore (IsPlateauOfSome measure ls) rest
    → IsListOf PlateauBefore (IsPlateauOfSome measure (l ∷ ls)) (added ++ rest)
first_and_others measure l ls added rest above one others =
    IsListOf-append PlateauBefore (IsStepPlateau measure l.class l.steps.steps) (IsPlateauOfSome measure ls)
    (IsPlateauOfSome measure (l ∷ ls)) added rest one others
    (λ a b i j.
    let k = above j.list j.list_in in
    let e = i.class_is in
    let f = j.is.class_is in
    inl (omega (arith, k, e, f)))
    (λ a i. record { list = l; list_in = Contains-head l ls; is = i })
    (λ b j. record { list = j.list; list_in = Contains-cons l ls j.list j.list_in; is = j.is })
    (λ p i. elim (Contains-cons_cases l ls i.list i.list_in) [
      | inl e ↦ inl (subst (λ (v : ClassSteps). IsStepPlateau measure v.class v.steps.steps p) (sym e) i.is)
      | inr k ↦ inr (record { list = i.list; list_in = k; is = i.is })
    ])

pub collecting_more : (measure : Measure) (all left left' : List ClassSteps) (l : ClassSteps)
    (rows rows' : List Plateau) → left ≡ l ∷ left'
    → AddsAll PlateauBefore (IsStepPlateau measure l.class l.steps.steps) rows rows'
    → IsCollecting measure all left rows → IsCollecting measure all left' rows'
collecting_more measure all left left' l rows rows' e adds was =
    let was' : IsCollecting measure all (l ∷ left') rows = subst (λ z. IsCollecting measure all z rows) e was in
    record {
      goes_on = λ rest h.
          subst (IsListOf PlateauBefore (IsPlateauOfSome measure all))
          (sym (ap (λ z. z ++ rest) adds.split ∙ append_assoc rows adds.added rest))
          (was'.goes_on (adds.added ++ rest) (first_and_others measure l left' adds.added rest was'.rise.0 adds.all h));
      rise = was'.rise.1;
    }

pub collecting_end : (measure : Measure) (all left : List ClassSteps) (rows : List Plateau) → left ≡ []
    → IsCollecting measure all left rows → IsListOf PlateauBefore (IsPlateauOfSome measure all) rows
collecting_end measure all left rows e was =
    let was' : IsCollecting measure all [] rows = subst (λ z. IsCollecting measure all z rows) e was in
    subst (IsListOf PlateauBefore (IsPlateauOfSome measure all)) (append-nil rows)
    (was'.goes_on []
    (IsListOf-none PlateauBefore (IsPlateauOfSome measure []) (λ p i. Contains-none i.list i.list_in)))

-- ---- constant intervals of lists, and of items

-- items have at most one measured value
pub IsTally-unique : (measure : Measure) (items : List Item) (a b : Tally) → IsTally items a → IsTally items b
    → measured measure a ≡ measured measure b
IsTally-unique Count items a b i j = ap (λ n. pos n) (i.count ∙ sym j.count)
IsTally-unique Sum items a b i j = i.sum ∙ sym j.sum
IsTally-unique Min items a b i j =
    let f = i.min_least b.min j.min_in in let g = j.min_least a.min i.min_in in omega (arith, ints)
IsTally-unique Max items a b i j =
    let f = i.max_greatest b.max j.max_in in let g = j.max_greatest a.max i.max_in in omega (arith, ints)

-- if no item holds an instant, no tally exists there
pub no_tally : (items : List Item) (t : ℤ) (a : Tally) → holding items t ≡ [] → IsTally (holding items t) a → ⊥
no_tally items t a e i = Contains-none a.min (subst (λ z. Contains (amounts z) a.min) e i.min_in)

module _ (measure : Measure) (items : List Item) (steps : List Step)
    (same : (t : ℤ) → IsTallyAt items t (tally_at steps t)) where
  pub value_of_steps : (v t : ℤ) → GivesValue measure steps v t → HasValue measure items v t
  value_of_steps v t (a, e, g) = record { tally = a; is = subst (IsTallyAt items t) e (same t); gives = g }

  found : (v t : ℤ) (o : Option Tally) → IsTallyAt items t o → HasValue measure items v t
      → (a : Tally) × (o ≡ Some a) × (measured measure a ≡ v)
  found v t None i h = absurd (no_tally items t h.tally i h.is)
  found v t (Some a) i h = (a, refl, IsTally-unique measure (holding items t) a h.tally i h.is ∙ h.gives)

  pub value_of_items : (v t : ℤ) → HasValue measure items v t → GivesValue measure steps v t
  value_of_items v t h = found v t (tally_at steps t) (same t) h

-- a class with an item that holds an instant has a tally there
tally_there : (items : List Item) (t : ℤ) (h : Tally) (o : Option Tally) → IsTallyAt items t o
    → IsTally (holding items t) h → (a : Tally) × (o ≡ Some a)
tally_there items t h None i is = absurd (no_tally items t h i is)
tally_there items t h (Some a) i is = (a, refl)

-- the lists have the same constant intervals as their items
plateaus_stand : (measure : Measure) (items : List Item) (ls : List ClassSteps) (rows : List Plateau)
    → ((class : ℕ) (t : ℤ) → IsTallyAt (of_class class items) t (class_at class ls t)) → ClassesRise ls
    → IsListOf PlateauBefore (IsPlateauOfSome measure ls) rows → ArePlateaus measure items rows
plateaus_stand measure items ls rows tallies rise lists =
    IsListOf-same PlateauBefore (IsPlateauOfSome measure ls) (IsPlateau measure items) rows to back lists
  where
    of_list : (l : ClassSteps) → Contains ls l → (class : ℕ) → l.class ≡ class → (t : ℤ)
        → IsTallyAt (of_class class items) t (tally_at l.steps.steps t)
    of_list l member class e t =
        subst (λ k. IsTallyAt (of_class k items) t (tally_at l.steps.steps t)) e
        (subst (IsTallyAt (of_class l.class items) t) (own_at ls l t rise member) (tallies l.class t))

    to : (p : Plateau) → IsPlateauOfSome measure ls p → IsPlateau measure items p
    to p i =
        let same = of_list i.list i.list_in p.class (sym i.is.class_is) in
        record {
          maximal = IsMaximal-same (GivesValue measure i.list.steps.steps p.value)
              (HasValue measure (of_class p.class items) p.value) p.period
              (value_of_steps measure (of_class p.class items) i.list.steps.steps same p.value)
              (value_of_items measure (of_class p.class items) i.list.steps.steps same p.value) i.is.maximal;
        }

    back : (p : Plateau) → IsPlateau measure items p → IsPlateauOfSome measure ls p
    back p i =
        let t : ℤ = p.period.from in
        let h = i.maximal.inside t (first_held p.period) in
        let a = tally_there (of_class p.class items) t h.tally (class_at p.class ls t) (tallies p.class t) h.is in
        let m = list_of_class p.class ls t a.0 a.1 in
        let same = of_list m.0 m.1 p.class m.2 in
        record {
          list = m.0;
          list_in = m.1;
          is = record {
            class_is = sym m.2;
            maximal = IsMaximal-same (HasValue measure (of_class p.class items) p.value)
                (GivesValue measure m.0.steps.steps p.value) p.period
                (value_of_items measure (of_class p.class items) m.0.steps.steps same p.value)
                (value_of_steps measure (of_class p.class items) m.0.steps.steps same p.value) i.maximal;
          };
        }

-- the same after rounds
pub plateaus_after : (measure : Measure) (items : List Item) (lists all : List ClassSteps) (rows : List Plateau)
    → StandForAll items lists → IsRound lists all → RisesFrom 0 lists → HaveNoNeighbours all
    → IsListOf PlateauBefore (IsPlateauOfSome measure all) rows → ArePlateaus measure items rows
plateaus_after measure items lists all rows stand round rise ones are =
    plateaus_stand measure items all rows
    (λ class t. subst (IsTallyAt (of_class class items) t) (sym (round.tallies class t)) (stand.tallies class t))
    (classes_rise 0 all (round.rises 0 rise) ones) are
