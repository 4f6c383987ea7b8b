-- Any items have exactly one list of constant intervals.
use Rattle.std.proofs.Common.{◌≡◌, ◌⊎◌, ℕ, zero, suc, Bool, true, false, cond, Option, Some, None, List, [], ◌∷◌, inl, inr, refl, sym, subst, ap, ◌∙◌, arith}
use Rattle.std.specs.Prelude.{ℤ, pos, ◌-ℤ◌, ◌+ℤ◌, ◌≤ℤ◌, ◌<ℤ◌, nat_abs, nat_eq, Contains}
use Rattle.std.specs.Cmp.{IsTotalOrder}
use Rattle.std.specs.Int.Signed.{yes_non_neg, pos-nat_abs, non_neg}
use Rattle.std.specs.Ordering.{ordering_then, int_cmp, nat_cmp}
use Rattle.std.specs.declared.cmp.Ordering.{Ordering}
use Rattle.std.specs.declared.cmp.Ordering.TheVariants.{Less, Equal, Greater}
use Rattle.std.proofs.Math.Dec.{T}
use Rattle.std.proofs.lemmas.Bool.Decides.{nat_tests}
use Rattle.std.proofs.lemmas.Cmp.{then_total, on_total, int_cmp_total, nat_cmp_total, int_ranked, ranked}
use Rattle.std.proofs.lemmas.Int.{ints}
use Rattle.period_core.specs.Period.{Holds, holds_at}
use Rattle.dip_core.specs.declared.item.Item.{Item}
use Rattle.list_core.specs.Wanted.{IsListOf}
use Rattle.list_core.proofs.RisingLemmas.{Contains-head, Contains-cons, Contains-cons_cases, Contains-none, IsListOf-unique}
use Rattle.list_core.proofs.WantedLemmas.{AllPairs-other, IsListOf-same}
use Rattle.list_core.proofs.WantedExistence.{IsUnorderedListOf, IsUnorderedListOf-none, IsUnorderedListOf-one, WantedForSome, some_unordered, some_wanted}
use Rattle.list_core.proofs.OrderedLemmas.{both_tie, before-asym}
use Rattle.period_core.proofs.PeriodLemmas.{Period-same}
use Rattle.dip_core.proofs.CrowdLemmas.{Holds-from_test}
use Rattle.merge_core.specs.declared.tally.Tally.{Tally}
use Rattle.merge_core.specs.Gaps.{IsMaximal}
use Rattle.merge_core.specs.Tallies.{holding, IsTally, IsTallyAt, both}
use Rattle.merge_core.proofs.MaximalAround.{maximal_around, maximal-once}
use Rattle.merge_core.proofs.SharedLemmas.{by_order, first_held}
use Rattle.merge_core.proofs.TallyLemmas.{IsTallyAt-append}
use Rattle.merge_core.proofs.WeightLemmas.{lone_tallies}
use Rattle.round_core.specs.declared.measure.Measure.{Measure}
use Rattle.round_core.specs.declared.plateau.Plateau.{Plateau}
use Rattle.round_core.specs.Plateaus.{of_class, measured, HasValue, IsPlateau, PlateauBefore, ArePlateaus}
use Rattle.round_core.proofs.ClosingLemmas.{Plateau-same}
use Rattle.round_core.proofs.CollectLemmas.{IsTally-unique, no_tally}
use Rattle.round_core.proofs.PermutedLemmas.{has_held, amount_from}

-- ---- the tally of some items at an instant can be computed

-- The tally of one item.
lone : Item → Tally
lone x = record { count = 1; sum = x.amount; min = x.amount; max = x.amount }

lone_at : (x : Item) (t : ℤ) → (o : Option Tally) × IsTallyAt (x ∷ []) t o
unfolding lone
lone_at x t = split (holds_at t x.period)
  where
    split : (b : Bool) → (o : Option Tally) × (elim o as (λ z. Type 0) [
      | None ↦ cond b (x ∷ []) [] ≡ []
      | Some tally ↦ IsTally (cond b (x ∷ []) []) tally
    ])
    split true = (Some (lone x), lone_tallies x (lone x) refl refl refl refl)
    split false = (None, refl)

pub some_tally : (items : List Item) (t : ℤ) → (o : Option Tally) × IsTallyAt items t o
some_tally [] t = (None, refl)
some_tally (x ∷ xs) t =
    let one = lone_at x t in
    let others = some_tally xs t in
    (both one.0 others.0, IsTallyAt-append (x ∷ []) xs t one.0 others.0 one.1 others.1)

-- equality of integers is decidable
int_or_not : (a b : ℤ) → (a ≡ b) ⊎ (a ≡ b → ⊥)
int_or_not a b = elim (by_order a b) [
  | inr more ↦ inr (λ e. omega (arith, ints))
  | inl h ↦ elim (by_order b a) [
    | inr less ↦ inr (λ e. omega (arith, ints))
    | inl k ↦ inl (omega (arith, ints))
  ]
]

-- it is decidable whether items have a value
pub value_or_not : (measure : Measure) (items : List Item) (v t : ℤ)
    → HasValue measure items v t ⊎ (HasValue measure items v t → ⊥)
value_or_not measure items v t = known (some_tally items t)
  where
    known : ((o : Option Tally) × IsTallyAt items t o) → HasValue measure items v t ⊎ (HasValue measure items v t → ⊥)
    known (None, i) = inr (λ h. no_tally items t h.tally i h.is)
    known (Some a, i) = elim (int_or_not (measured measure a) v) [
      | inl e ↦ inl (record { tally = a; is = i; gives = e })
      | inr ne ↦ inr (λ h. ne (IsTally-unique measure (holding items t) a h.tally i h.is ∙ h.gives))
    ]

-- ---- the periods of items bound their constant intervals

-- if items have a value, one of them holds the instant
pub holder : (measure : Measure) (items : List Item) (v t : ℤ) → HasValue measure items v t
    → (x : Item) × Contains items x × Holds x.period t
holder measure items v t h =
    let m = amount_from (holding items t) h.tally.min h.is.min_in in
    let k = has_held items t m.0 m.1 in
    (m.0, k.0, Holds-from_test t m.0.period k.1)

-- an item of a class's items is one of the items, and of that class
pub own_item : (class : ℕ) (items : List Item) (x : Item) → Contains (of_class class items) x
    → Contains items x × (x.class ≡ class)
own_item class [] x h = absurd (Contains-none x h)
own_item class (y ∷ items) x h = split (nat_eq y.class class) refl (own_item class items x) h
  where
    same : (a b : ℕ) → nat_eq a b ≡ true → a ≡ b
    same a b e = grind (arith, nat_tests)

    split : (b : Bool) → nat_eq y.class class ≡ b
        → (Contains (of_class class items) x → Contains items x × (x.class ≡ class))
        → Contains (cond b (y ∷ of_class class items) (of_class class items)) x
        → Contains (y ∷ items) x × (x.class ≡ class)
    split true e rec k = elim (Contains-cons_cases y (of_class class items) x k) [
      | inl f ↦ (
        subst (Contains (y ∷ items)) f (Contains-head y items),
        sym (ap (λ (v : Item). v.class) f) ∙ same y.class class e,
      )
      | inr later ↦ let m = rec later in (Contains-cons y items x m.0, m.1)
    ]
    split false e rec k = let m = rec k in (Contains-cons y items x m.0, m.1)

-- bounds of all items' periods
pub bounds : (items : List Item) → (lo hi : ℤ)
    × ((x : Item) (t : ℤ) → Contains items x → Holds x.period t → (lo ≤ℤ t) × (t <ℤ hi))
bounds [] = (pos 0, pos 0, λ x t h k. absurd (Contains-none x h))
bounds (y ∷ items) =
    let rest = bounds items in
    let lo = least_of y.period.from rest.0 in
    let hi = greatest_of y.period.to rest.1 in (
      lo.0,
      hi.0,
      λ x t h k. elim (Contains-cons_cases y items x h) [
        | inl e ↦
            let a : y.period.from ≤ℤ t = subst (λ (v : Item). v.period.from ≤ℤ t) (sym e) k.0 in
            let b : t <ℤ y.period.to = subst (λ (v : Item). t <ℤ v.period.to) (sym e) k.1 in
            (omega (arith, ints, a, lo.1), omega (arith, ints, b, hi.1))
        | inr later ↦
            let m = rest.2 x t later k in
            (omega (arith, ints, m.0, lo.2), omega (arith, ints, m.1, hi.2))
      ],
    )
  where
    least_of : (a b : ℤ) → (z : ℤ) × (z ≤ℤ a) × (z ≤ℤ b)
    least_of a b = elim (by_order a b) [
      | inl h ↦ (a, omega (arith, ints), h)
      | inr h ↦ (b, omega (arith, ints), omega (arith, ints))
    ]

    greatest_of : (a b : ℤ) → (z : ℤ) × (a ≤ℤ z) × (b ≤ℤ z)
    greatest_of a b = elim (by_order a b) [
      | inl h ↦ (b, h, omega (arith, ints))
      | inr h ↦ (a, omega (arith, ints), omega (arith, ints))
    ]

-- A number of instants from `from` on.
instants : ℤ → ℕ → List ℤ
instants from zero = []
instants from (suc n) = from ∷ instants (from +ℤ pos 1) n

among : (from : ℤ) (n : ℕ) (t : ℤ) → from ≤ℤ t → t <ℤ (from +ℤ pos n) → Contains (instants from n) t
unfolding instants
among from zero t a b = absurd (omega (arith, ints))
among from (suc n) t a b = elim (by_order t from) [
  | inl h ↦
      let e : from ≡ t = omega (arith, ints) in
      subst (Contains (from ∷ instants (from +ℤ pos 1) n)) e (Contains-head from (instants (from +ℤ pos 1) n))
  | inr h ↦
      Contains-cons from (instants (from +ℤ pos 1) n) t
      (among (from +ℤ pos 1) n t (omega (arith, ints)) (omega (arith, ints)))
]

between_bounds : (lo hi t : ℤ) → lo ≤ℤ t → t <ℤ hi → Contains (instants lo (nat_abs (hi -ℤ lo))) t
between_bounds lo hi t a b =
    let n : T (non_neg (hi -ℤ lo)) = yes_non_neg (omega (arith, ints)) in
    let e : pos (nat_abs (hi -ℤ lo)) ≡ hi -ℤ lo = pos-nat_abs (hi -ℤ lo) n in
    among lo (nat_abs (hi -ℤ lo)) t a (subst (λ v. t <ℤ (lo +ℤ v)) (sym e) (omega (arith, ints)))

-- ---- the constant interval of a class that holds an instant

module _ (measure : Measure) (items : List Item) where
  -- A constant interval of the class that holds `t`.
  record IsPlateauAt (class : ℕ) (t : ℤ) (p : Plateau) : Type 0 where
    class_is : p.class ≡ class
    holds : Holds p.period t
    is : IsPlateau measure items p

  -- two constant intervals of one class that share an instant are equal
  pub one_at : (p q : Plateau) (t : ℤ) → p.class ≡ q.class → Holds p.period t → Holds q.period t → IsPlateau measure items p
      → IsPlateau measure items q → p ≡ q
  one_at p q t same h k i j =
      let a = i.maximal.inside t h in
      let b : HasValue measure (of_class p.class items) q.value t =
      subst (λ c. HasValue measure (of_class c items) q.value t) (sym same) (j.maximal.inside t k) in
      let value : p.value ≡ q.value =
      sym a.gives ∙ IsTally-unique measure (holding (of_class p.class items) t) a.tally b.tally a.is b.is ∙ b.gives in
      let j' : IsMaximal (HasValue measure (of_class p.class items) p.value) q.period =
      subst (λ v. IsMaximal (HasValue measure (of_class p.class items) v) q.period) (sym value)
      (subst (λ c. IsMaximal (HasValue measure (of_class c items) q.value) q.period) (sym same) j.maximal) in
      Plateau-same p q same
      (maximal-once (HasValue measure (of_class p.class items) p.value) p.period q.period t i.maximal j' h k) value

  plateau_at : (class : ℕ) (t : ℤ) → (ps : List Plateau) × IsUnorderedListOf (IsPlateauAt class t) ps
  plateau_at class t = known (some_tally (of_class class items) t)
    where
      known : ((o : Option Tally) × IsTallyAt (of_class class items) t o)
          → (ps : List Plateau) × IsUnorderedListOf (IsPlateauAt class t) ps
      known (None, i) = (
        [],
        IsUnorderedListOf-none (IsPlateauAt class t) (λ p at.
            let h : HasValue measure (of_class class items) p.value t =
            subst (λ c. HasValue measure (of_class c items) p.value t) at.class_is (at.is.maximal.inside t at.holds) in
            no_tally (of_class class items) t h.tally i h.is),
      )
      known (Some a, i) =
          let own = of_class class items in
          let v : ℤ = measured measure a in
          let S : ℤ → Type 0 = HasValue measure own v in
          let lie = bounds own in
          let m = maximal_around S (value_or_not measure own v) lie.0 lie.1
          (λ u h. (let x = holder measure own v u h in (lie.2 x.0 u x.1 x.2).0))
          (λ u h. (let x = holder measure own v u h in (lie.2 x.0 u x.1 x.2).1))
          t (record { tally = a; is = i; gives = refl }) in
          let p : Plateau = record { class = class; period = m.0; value = v } in
          let is : IsPlateau measure items p = record { maximal = m.2 } in (
            p ∷ [],
            IsUnorderedListOf-one (IsPlateauAt class t) p (record { class_is = refl; holds = m.1; is = is })
                (λ q at. one_at p q t (sym at.class_is) m.1 at.holds is at.is),
          )

-- ---- all constant intervals

-- The order by class, start, end and value.
plateau_cmp : Plateau → Plateau → Ordering
plateau_cmp a b =
    ordering_then (ordering_then (nat_cmp a.class b.class) (int_cmp a.period.from b.period.from))
    (ordering_then (int_cmp a.period.to b.period.to) (int_cmp a.value b.value))

plateau_total : IsTotalOrder plateau_cmp
unfolding plateau_cmp
plateau_total =
    then_total (then_total (on_total (λ x. x.class) nat_cmp_total) (on_total (λ x. x.period.from) int_cmp_total))
    (then_total (on_total (λ x. x.period.to) int_cmp_total) (on_total (λ x. x.value) int_cmp_total))

tied_plateaus : (a b : Plateau) → plateau_cmp a b ≡ Equal → a ≡ b
unfolding plateau_cmp
tied_plateaus a b e =
    let halves = both_tie _ _ e in
    let first = both_tie _ _ halves.0 in
    let second = both_tie _ _ halves.1 in
    Plateau-same a b (ranked a.class b.class Equal (sym first.0))
    (Period-same a.period b.period (int_ranked a.period.from b.period.from Equal (sym first.1))
    (int_ranked a.period.to b.period.to Equal (sym second.0)))
    (int_ranked a.value b.value Equal (sym second.1))

-- an interval that comes first does so by class or by start, or both are equal
first_of : (r s rest : Ordering) → ordering_then (ordering_then r s) rest ≡ Less
    → (r ≡ Less) ⊎ ((r ≡ Equal) × ((s ≡ Less) ⊎ (s ≡ Equal)))
first_of Less s rest e = inl refl
first_of Greater s rest e = cc
first_of Equal Less rest e = inr (refl, inl refl)
first_of Equal Equal rest e = inr (refl, inr refl)
first_of Equal Greater rest e = cc

not_before_itself : (a : Plateau) → plateau_cmp a a ≡ Less → ⊥
not_before_itself a e = before-asym plateau_cmp plateau_total a a e e

-- of two constant intervals of some items, the first one in this order comes first by class and start
before_of : (measure : Measure) (items : List Item) (a b : Plateau) → IsPlateau measure items a
    → IsPlateau measure items b → plateau_cmp a b ≡ Less → PlateauBefore a b
unfolding plateau_cmp
before_of measure items a b i j less =
    elim (first_of (nat_cmp a.class b.class) (int_cmp a.period.from b.period.from)
    (ordering_then (int_cmp a.period.to b.period.to) (int_cmp a.value b.value)) less) [
      | inl e ↦ inl (ranked a.class b.class Less (sym e))
      | inr (e, rest) ↦ elim rest [
        | inl f ↦ inr (ranked a.class b.class Equal (sym e), int_ranked a.period.from b.period.from Less (sym f))
        | inr f ↦ absurd (
            let start : a.period.from ≡ b.period.from = int_ranked a.period.from b.period.from Equal (sym f) in
            let same : a ≡ b =
            one_at measure items a b a.period.from (ranked a.class b.class Equal (sym e)) (first_held a.period)
            (subst (Holds b.period) (sym start) (first_held b.period)) i j in
            not_before_itself a (subst (λ z. plateau_cmp a z ≡ Less) (sym same) less))
      ]
    ]

-- any items have a list of constant intervals
pub some_plateaus : (measure : Measure) (items : List Item) → (ps : List Plateau) × ArePlateaus measure items ps
some_plateaus measure items =
    let lie = bounds items in
    let all : List ℤ = instants lie.0 (nat_abs (lie.1 -ℤ lie.0)) in
    let Wanted : Item → Plateau → Type 0 = λ x. WantedForSome (λ t. IsPlateauAt measure items x.class t) all in
    let (unordered, are) =
    some_unordered Wanted (λ x. some_unordered (λ t. IsPlateauAt measure items x.class t)
    (λ t. plateau_at measure items x.class t) all) items in
    let (ps, is) = some_wanted plateau_cmp plateau_total tied_plateaus (WantedForSome Wanted items) unordered are in
    let listed : IsListOf (λ a b. plateau_cmp a b ≡ Less) (IsPlateau measure items) ps =
    IsListOf-same (λ a b. plateau_cmp a b ≡ Less) (WantedForSome Wanted items) (IsPlateau measure items) ps
    (λ p (x, x_in, (t, t_in, at)). at.is)
    (λ p i.
    let h = i.maximal.inside p.period.from (first_held p.period) in
    let m = holder measure (of_class p.class items) p.value p.period.from h in
    let own = own_item p.class items m.0 m.1 in
    let lies = lie.2 m.0 p.period.from own.0 m.2 in (
      m.0,
      own.0,
      (
        p.period.from,
        between_bounds lie.0 lie.1 p.period.from lies.0 lies.1,
        record { class_is = sym own.1; holds = first_held p.period; is = i },
      ),
    ))
    is in (
      ps,
      record {
        ordered = AllPairs-other (λ a b. plateau_cmp a b ≡ Less) PlateauBefore ps listed.ordered
            (λ a b h k less. before_of measure items a b ((listed.exactly a).0 h) ((listed.exactly b).0 k) less);
        exactly = listed.exactly;
      },
    )

PlateauBefore-asym : (a b : Plateau) → PlateauBefore a b → PlateauBefore b a → ⊥
PlateauBefore-asym a b (inl h) (inl k) = omega (arith, h, k)
PlateauBefore-asym a b (inl h) (inr (e, k)) = omega (arith, h, e)
PlateauBefore-asym a b (inr (e, h)) (inl k) = omega (arith, e, k)
PlateauBefore-asym a b (inr (e, h)) (inr (f, k)) = omega (arith, ints)

-- and no other one
pub one_list_of_plateaus : (measure : Measure) (items : List Item) (one other : List Plateau)
    → ArePlateaus measure items one → ArePlateaus measure items other → one ≡ other
one_list_of_plateaus measure items one other is is' =
    IsListOf-unique PlateauBefore (IsPlateau measure items) one other PlateauBefore-asym is is'
