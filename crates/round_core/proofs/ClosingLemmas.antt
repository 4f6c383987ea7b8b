-- Coalescing intervals that touch and have the same value into maximal ones.
use Rattle.std.proofs.Common.{◌≡◌, ℕ, List, length, [], ◌∷◌, ◌++◌, Bool, true, false, cond, Option, Some, None, inl, inr, refl, sym, subst, ap, ◌∙◌, arith, append-nil, append_assoc}
use Rattle.std.proofs.lemmas.List.{nil_from_length}
use Rattle.std.proofs.lemmas.Option.{none-some, same_Some}
use Rattle.std.specs.Prelude.{ℤ, pos, ◌-ℤ◌, ◌≤ℤ◌, ◌<ℤ◌, Contains}
use Rattle.std.proofs.lemmas.Int.{ints}
use Rattle.period_core.specs.Period.{holds_at}
use Rattle.list_core.specs.Wanted.{AddsAll}
use Rattle.list_core.proofs.RisingLemmas.{AllPairs-head, AllPairs-tail, Contains-head, Contains-cons, Contains-cons_cases, Contains-none}
use Rattle.list_core.proofs.WantedLemmas.{AllPairs-before, IsListOf-append, IsListOf-one, IsListOf-none, IsListOf-same}
use Rattle.period_core.proofs.PeriodLemmas.{Period-same}
use Rattle.merge_core.specs.declared.tally.Tally.{Tally}
use Rattle.merge_core.specs.declared.step.Step.{Step}
use Rattle.merge_core.specs.Steps.{tally_at, AreStepsApart}
use Rattle.merge_core.proofs.SharedLemmas.{by_order, first_held}
use Rattle.merge_core.proofs.StepLemmas.{apart_head, apart_tail, holds_yes, holds_early, holds_late}
use Rattle.merge_core.proofs.SweepLemmas.{IsMaximal-same}
use Rattle.round_core.specs.declared.measure.Measure.{Measure}
use Rattle.round_core.specs.declared.plateau.Plateau.{Plateau}
use Rattle.round_core.specs.Plateaus.{measured, PlateauBefore}
use Rattle.round_core.specs.Closing.{GivesValue, IsStepPlateau, valued_step, valued, value_at, HasValueAt, IsClosed, ListsClosed, AreApart, Continues, IsJoined}

none_some : (o : Option ℤ) (a : ℤ) → o ≡ None → o ≡ Some a → ⊥
none_some o a e f = none-some a (sym e ∙ f)

some_same : (o : Option ℤ) (a b : ℤ) → o ≡ Some a → o ≡ Some b → a ≡ b
some_same o a b e f = same_Some a b (sym e ∙ f)

-- an interval is determined by its class, its period and its value
pub Plateau-same : (a b : Plateau) → a.class ≡ b.class → a.period ≡ b.period → a.value ≡ b.value → a ≡ b
Plateau-same a b c p v = λ k. record { class = c k; period = p k; value = v k }

apart_first : (x : Plateau) (l : List Plateau) (s : Plateau) → AreApart (x ∷ l) → Contains l s
    → x.period.to ≤ℤ s.period.from
apart_first x l s r h = AllPairs-head (λ (a b : Plateau). a.period.to ≤ℤ b.period.from) x l s r h

apart_rest : (x : Plateau) (l : List Plateau) → AreApart (x ∷ l) → AreApart l
apart_rest x l r = AllPairs-tail (λ (a b : Plateau). a.period.to ≤ℤ b.period.from) x l r

-- ---- the value at an instant

at_in : (r : Plateau) (rows : List Plateau) (t : ℤ) → r.period.from ≤ℤ t → t <ℤ r.period.to
    → value_at (r ∷ rows) t ≡ Some r.value
at_in r rows t a b = ap (λ (c : Bool). cond c (Some r.value) (value_at rows t)) (holds_yes r.period t a b)

at_before : (r : Plateau) (rows : List Plateau) (t : ℤ) → t <ℤ r.period.from
    → value_at (r ∷ rows) t ≡ value_at rows t
at_before r rows t a = ap (λ (c : Bool). cond c (Some r.value) (value_at rows t)) (holds_early r.period t a)

at_after : (r : Plateau) (rows : List Plateau) (t : ℤ) → r.period.to ≤ℤ t
    → value_at (r ∷ rows) t ≡ value_at rows t
at_after r rows t a = ap (λ (c : Bool). cond c (Some r.value) (value_at rows t)) (holds_late r.period t a)

nothing : (rows : List Plateau) (t : ℤ) → ((r : Plateau) → Contains rows r → t <ℤ r.period.from)
    → value_at rows t ≡ None
nothing [] t before = refl
nothing (r ∷ rows) t before =
    at_before r rows t (before r (Contains-head r rows)) ∙ nothing rows t (λ s h. before s (Contains-cons r rows s h))

-- before the first interval ends, the later ones have no value
later_nothing : (x : Plateau) (l : List Plateau) (t : ℤ) → AreApart (x ∷ l) → t <ℤ x.period.to → value_at l t ≡ None
later_nothing x l t r h =
    nothing l t (λ s k. let after : x.period.to ≤ℤ s.period.from = apart_first x l s r k in omega (arith, ints))

before_nothing : (x : Plateau) (l : List Plateau) (t : ℤ) → AreApart (x ∷ l) → t <ℤ x.period.from
    → value_at (x ∷ l) t ≡ None
before_nothing x l t r h =
    let proper : x.period.from <ℤ x.period.to = x.period.ordered in
    at_before x l t h ∙ later_nothing x l t r (omega (arith, ints))

-- ---- an interval that no other one continues is maximal

module _ (class : ℕ) (x : Plateau) (l : List Plateau) (own : x.class ≡ class) (r : AreApart (x ∷ l))
    (ends : HasValueAt l x.value x.period.to → ⊥) where
  -- if the later intervals have a value, `x` has ended
  value_late : (v t : ℤ) → HasValueAt l v t → x.period.to ≤ℤ t
  value_late v t h =
      elim (by_order x.period.to t) [
        | inl k ↦ k
        | inr k ↦ absurd (none_some (value_at l t) v (later_nothing x l t r k) h)
      ]

  value_on : (v t : ℤ) → HasValueAt (x ∷ l) v t → x.period.from ≤ℤ t
  value_on v t h =
      elim (by_order x.period.from t) [
        | inl k ↦ k
        | inr k ↦ absurd (none_some (value_at (x ∷ l) t) v (before_nothing x l t r k) h)
      ]

  value_x : (v t : ℤ) → x.period.from ≤ℤ t → t <ℤ x.period.to → HasValueAt (x ∷ l) v t → x.value ≡ v
  value_x v t a b h = some_same (value_at (x ∷ l) t) x.value v (at_in x l t a b) h

  to_late : (v t : ℤ) → x.period.to ≤ℤ t → HasValueAt (x ∷ l) v t → HasValueAt l v t
  to_late v t k h = sym (at_after x l t k) ∙ h

  from_late : (v t : ℤ) → x.period.to ≤ℤ t → HasValueAt l v t → HasValueAt (x ∷ l) v t
  from_late v t k h = at_after x l t k ∙ h

  x_closed : IsClosed class (x ∷ l) x
  x_closed =
      let proper : x.period.from <ℤ x.period.to = x.period.ordered in
      record {
        class_is = own;
        maximal = record {
          inside = λ t h. at_in x l t h.0 h.1;
          before = λ h. (
              let k : x.period.from ≤ℤ (x.period.from -ℤ pos 1) = value_on x.value (x.period.from -ℤ pos 1) h in
              omega (arith, ints));
          after = λ h. ends (to_late x.value x.period.to (omega (arith, ints)) h);
        };
      }

  later_starts : (k : Plateau) → IsClosed class l k → x.period.to ≤ℤ k.period.from
  later_starts k i = value_late k.value k.period.from (i.maximal.inside k.period.from (first_held k.period))

  later_closed : (k : Plateau) → IsClosed class l k → IsClosed class (x ∷ l) k
  later_closed k i =
      let proper : x.period.from <ℤ x.period.to = x.period.ordered in
      let proper' : k.period.from <ℤ k.period.to = k.period.ordered in
      let start : x.period.to ≤ℤ k.period.from = later_starts k i in
      record {
        class_is = i.class_is;
        maximal = record {
          inside = λ t h. (let on = h.0 in from_late k.value t (omega (arith, ints)) (i.maximal.inside t h));
          before = λ h. elim (by_order x.period.to (k.period.from -ℤ pos 1)) [
            | inl late ↦ i.maximal.before (to_late k.value (k.period.from -ℤ pos 1) late h)
            | inr early ↦
                let touch : k.period.from ≡ x.period.to = omega (arith, ints) in
                let same : x.value ≡ k.value =
                value_x k.value (k.period.from -ℤ pos 1) (omega (arith, ints)) early h in
                ends (subst (λ v. HasValueAt l v x.period.to) (sym same)
                (subst (λ t. HasValueAt l k.value t) touch
                (i.maximal.inside k.period.from (first_held k.period))))
          ];
          after = λ h. i.maximal.after (to_late k.value k.period.to (omega (arith, ints)) h);
        };
      }

  late_closed : (k : Plateau) → IsClosed class (x ∷ l) k → x.period.to ≤ℤ k.period.from → IsClosed class l k
  late_closed k i start =
      let proper' : k.period.from <ℤ k.period.to = k.period.ordered in
      record {
        class_is = i.class_is;
        maximal = record {
          inside = λ t h. (let on = h.0 in to_late k.value t (omega (arith, ints)) (i.maximal.inside t h));
          before = λ h. i.maximal.before
              (from_late k.value (k.period.from -ℤ pos 1) (value_late k.value (k.period.from -ℤ pos 1) h) h);
          after = λ h. i.maximal.after (from_late k.value k.period.to (omega (arith, ints)) h);
        };
      }

  early_closed : (k : Plateau) → IsClosed class (x ∷ l) k → k.period.from <ℤ x.period.to → x ≡ k
  early_closed k i early =
      let proper : x.period.from <ℤ x.period.to = x.period.ordered in
      let proper' : k.period.from <ℤ k.period.to = k.period.ordered in
      let here : HasValueAt (x ∷ l) k.value k.period.from =
      i.maximal.inside k.period.from (first_held k.period) in
      let on : x.period.from ≤ℤ k.period.from = value_on k.value k.period.from here in
      let same : x.value ≡ k.value = value_x k.value k.period.from on early here in
      let in_x : (t : ℤ) → x.period.from ≤ℤ t → t <ℤ x.period.to → HasValueAt (x ∷ l) k.value t =
      λ t a b. at_in x l t a b ∙ ap (λ (z : ℤ). Some z) same in
      let starts : x.period.from ≡ k.period.from = elim (by_order k.period.from x.period.from) [
        | inl h ↦ omega (arith, ints)
        | inr h ↦ absurd (i.maximal.before (in_x (k.period.from -ℤ pos 1) (omega (arith, ints)) (omega (arith, ints))))
      ] in
      let stops : x.period.to ≡ k.period.to = elim (by_order x.period.to k.period.to) [
        | inr h ↦ absurd (i.maximal.after (in_x k.period.to (omega (arith, ints)) h))
        | inl h ↦ elim (by_order k.period.to x.period.to) [
          | inl h' ↦ omega (arith, ints)
          | inr h' ↦ absurd (ends (subst (λ v. HasValueAt l v x.period.to) (sym same)
              (to_late k.value x.period.to (omega (arith, ints))
              (i.maximal.inside x.period.to (omega (arith, ints), h')))))
        ]
      ] in
      Plateau-same x k (own ∙ sym i.class_is) (Period-same x.period k.period starts stops) same

  closed_cut : (rest : List Plateau) → ListsClosed class l rest → ListsClosed class (x ∷ l) (x ∷ rest)
  closed_cut rest lists =
      let proper : x.period.from <ℤ x.period.to = x.period.ordered in
      IsListOf-append PlateauBefore (λ k. x ≡ k) (IsClosed class l) (IsClosed class (x ∷ l)) (x ∷ []) rest
      (IsListOf-one PlateauBefore (λ k. x ≡ k) x refl (λ k e. e)) lists
      (λ a b e i.
      let f : x.period.from ≡ a.period.from = ap (λ (v : Plateau). v.period.from) e in
      let start : x.period.to ≤ℤ b.period.from = later_starts b i in
      inr (sym (ap (λ (v : Plateau). v.class) e) ∙ own ∙ sym i.class_is, omega (arith, ints)))
      (λ a e. subst (IsClosed class (x ∷ l)) e x_closed)
      later_closed
      (λ k i. elim (by_order x.period.to k.period.from) [
        | inl late ↦ inr (late_closed k i late)
        | inr early ↦ inl (early_closed k i early)
      ])

-- nothing continues `x` at the end, or if the next interval doesn't
ends_alone : (x : Plateau) → HasValueAt [] x.value x.period.to → ⊥
ends_alone x h = none_some None x.value refl h

ends_cut : (x y : Plateau) (l : List Plateau) → AreApart (x ∷ (y ∷ l)) → (Continues x y → ⊥)
    → HasValueAt (y ∷ l) x.value x.period.to → ⊥
ends_cut x y l r not h =
    let after : x.period.to ≤ℤ y.period.from = apart_first x (y ∷ l) y r (Contains-head y l) in
    let proper : y.period.from <ℤ y.period.to = y.period.ordered in
    elim (by_order y.period.from x.period.to) [
      | inr early ↦ none_some (value_at (y ∷ l) x.period.to) x.value
          (before_nothing y l x.period.to (apart_rest x (y ∷ l) r) early) h
      | inl on ↦ not (record {
        touches = omega (arith, ints);
        same =
            some_same (value_at (y ∷ l) x.period.to) x.value y.value h
            (at_in y l x.period.to on (omega (arith, ints)));
      })
    ]

-- ---- two intervals that touch and have the same value are one

module _ (x y j : Plateau) (l : List Plateau) (c : Continues x y) (i : IsJoined x y j) where
  joined_at : (t : ℤ) → value_at (j ∷ l) t ≡ value_at (x ∷ (y ∷ l)) t
  joined_at t =
      let px : x.period.from <ℤ x.period.to = x.period.ordered in
      let py : y.period.from <ℤ y.period.to = y.period.ordered in
      let touch : x.period.to ≡ y.period.from = c.touches in
      let from : j.period.from ≡ x.period.from = i.from in
      let to : j.period.to ≡ y.period.to = i.to in
      elim (by_order x.period.to t) [
        | inr before_end ↦ elim (by_order x.period.from t) [
          | inl on ↦
              at_in j l t (omega (arith, ints)) (omega (arith, ints)) ∙ ap (λ (z : ℤ). Some z) i.value
              ∙ sym (at_in x (y ∷ l) t on before_end)
          | inr early ↦
              at_before j l t (omega (arith, ints))
              ∙ sym (at_before x (y ∷ l) t early ∙ at_before y l t (omega (arith, ints)))
        ]
        | inl late ↦ elim (by_order y.period.to t) [
          | inr on ↦
              at_in j l t (omega (arith, ints)) (omega (arith, ints)) ∙ ap (λ (z : ℤ). Some z) (i.value ∙ c.same)
              ∙ sym (at_after x (y ∷ l) t late ∙ at_in y l t (omega (arith, ints)) on)
          | inl later ↦
              at_after j l t (omega (arith, ints)) ∙ sym (at_after x (y ∷ l) t late ∙ at_after y l t later)
        ]
      ]

  joined_apart : AreApart (x ∷ (y ∷ l)) → AreApart (j ∷ l)
  joined_apart r =
      AllPairs-before (λ (a b : Plateau). a.period.to ≤ℤ b.period.from) j l
      (λ k h.
      let after : y.period.to ≤ℤ k.period.from = apart_first y l k (apart_rest x (y ∷ l) r) h in
      let to : j.period.to ≡ y.period.to = i.to in
      omega (arith, ints))
      (apart_rest y l (apart_rest x (y ∷ l) r))

closed_same : (class : ℕ) (rows rows' rest : List Plateau) → ((t : ℤ) → value_at rows t ≡ value_at rows' t)
    → ListsClosed class rows rest → ListsClosed class rows' rest
closed_same class rows rows' rest same lists =
    IsListOf-same PlateauBefore (IsClosed class rows) (IsClosed class rows') rest
    (λ k i. record {
      class_is = i.class_is;
      maximal = IsMaximal-same (HasValueAt rows k.value) (HasValueAt rows' k.value) k.period
          (λ t h. sym (same t) ∙ h) (λ t h. same t ∙ h) i.maximal;
    })
    (λ k i. record {
      class_is = i.class_is;
      maximal = IsMaximal-same (HasValueAt rows' k.value) (HasValueAt rows k.value) k.period
          (λ t h. same t ∙ h) (λ t h. sym (same t) ∙ h) i.maximal;
    })
    lists

-- ---- steps as intervals

of_valued : (measure : Measure) (class : ℕ) (steps : List Step) (k : Plateau) → Contains (valued measure class steps) k
    → (s : Step) × Contains steps s × (valued_step measure class s ≡ k)
of_valued measure class [] k h = absurd (Contains-none k h)
of_valued measure class (s ∷ steps) k h =
    elim (Contains-cons_cases (valued_step measure class s) (valued measure class steps) k h) [
      | inl e ↦ (s, Contains-head s steps, e)
      | inr later ↦
          let m = of_valued measure class steps k later in (m.0, Contains-cons s steps m.0 m.1, m.2)
    ]

valued_apart : (measure : Measure) (class : ℕ) (steps : List Step) → AreStepsApart steps
    → AreApart (valued measure class steps)
valued_apart measure class [] r = λ i j d less h. absurd (omega arith)
valued_apart measure class (s ∷ steps) r =
    AllPairs-before (λ (a b : Plateau). a.period.to ≤ℤ b.period.from) (valued_step measure class s)
    (valued measure class steps)
    (λ k h.
    let m = of_valued measure class steps k h in
    subst (λ (v : Plateau). s.period.to ≤ℤ v.period.from) m.2 (apart_head s steps m.0 r m.1))
    (valued_apart measure class steps (apart_tail s steps r))

valued_at : (measure : Measure) (class : ℕ) (steps : List Step) (v t : ℤ) → HasValueAt (valued measure class steps) v t
    → GivesValue measure steps v t
valued_at measure class [] v t h = absurd (none_some None v refl h)
valued_at measure class (s ∷ steps) v t h = split (holds_at t s.period) (valued_at measure class steps v t) h
  where
    split : (b : Bool) → (HasValueAt (valued measure class steps) v t → GivesValue measure steps v t)
        → cond b (Some (measured measure s.tally)) (value_at (valued measure class steps) t) ≡ Some v
        → (a : Tally) × (cond b (Some s.tally) (tally_at steps t) ≡ Some a) × (measured measure a ≡ v)
    split true later e = (s.tally, refl, same_Some _ _ e)
    split false later e = later e

-- The measured value of a tally, if there is one.
abbrev asked : Measure → Option Tally → Option ℤ
asked measure None = None
asked measure (Some a) = Some (measured measure a)

value_given : (measure : Measure) (class : ℕ) (steps : List Step) (t : ℤ) (o : Option Tally) → tally_at steps t ≡ o
    → value_at (valued measure class steps) t ≡ asked measure o
value_given measure class steps t o e = all steps ∙ ap (asked measure) e
  where
    mapped : (b : Bool) (s : Step) (o : Option Tally) (p : Option ℤ) → p ≡ asked measure o
        → cond b (Some (measured measure s.tally)) p ≡ asked measure (cond b (Some s.tally) o)
    mapped true s o p e = refl
    mapped false s o p e = e

    all : (ss : List Step) → value_at (valued measure class ss) t ≡ asked measure (tally_at ss t)
    all [] = refl
    all (s ∷ ss) = mapped (holds_at t s.period) s (tally_at ss t) (value_at (valued measure class ss) t) (all ss)

at_valued : (measure : Measure) (class : ℕ) (steps : List Step) (v t : ℤ) → GivesValue measure steps v t
    → HasValueAt (valued measure class steps) v t
at_valued measure class steps v t (a, e, f) =
    value_given measure class steps t (Some a) e ∙ ap (λ (z : ℤ). Some z) f

-- the coalesced steps are the constant intervals of the steps
step_plateaus : (measure : Measure) (class : ℕ) (steps : List Step) (old new added : List Plateau) → new ≡ old ++ added
    → ListsClosed class (valued measure class steps) added
    → AddsAll PlateauBefore (IsStepPlateau measure class steps) old new
step_plateaus measure class steps old new added e lists =
    record {
      added = added;
      split = e;
      all =
          IsListOf-same PlateauBefore (IsClosed class (valued measure class steps)) (IsStepPlateau measure class steps)
          added
          (λ k i. record {
            class_is = i.class_is;
            maximal = IsMaximal-same (HasValueAt (valued measure class steps) k.value)
                (GivesValue measure steps k.value) k.period (valued_at measure class steps k.value)
                (at_valued measure class steps k.value) i.maximal;
          })
          (λ k i. record {
            class_is = i.class_is;
            maximal = IsMaximal-same (GivesValue measure steps k.value)
                (HasValueAt (valued measure class steps) k.value) k.period (at_valued measure class steps k.value)
                (valued_at measure class steps k.value) i.maximal;
          })
          lists;
    }

none_closed : (class : ℕ) (k : Plateau) → IsClosed class [] k → ⊥
none_closed class k c = none_some None k.value refl (c.maximal.inside k.period.from (first_held k.period))

-- ---- the loop

-- The intervals made until now, followed by the intervals of the open one and the remaining steps, are all of them.
pub record IsClosing
    (measure : Measure) (class : ℕ) (steps left : List Step) (row : Plateau) (old rows : List Plateau) : Type 0 where
  pub made : List Plateau
  pub split : rows ≡ old ++ made
  pub own : row.class ≡ class
  pub goes_on : (rest : List Plateau) → ListsClosed class (row ∷ valued measure class left) rest
      → ListsClosed class (valued measure class steps) (made ++ rest)
  pub apart : AreApart (row ∷ valued measure class left)

pub closing_none : (measure : Measure) (class : ℕ) (steps : List Step) (old : List Plateau) → length steps ≡ 0
    → AddsAll PlateauBefore (IsStepPlateau measure class steps) old old
closing_none measure class steps old none =
    subst (λ z. AddsAll PlateauBefore (IsStepPlateau measure class z) old old) (sym (nil_from_length steps none))
    (step_plateaus measure class [] old old [] (sym (append-nil old))
    (IsListOf-none PlateauBefore (IsClosed class []) (none_closed class)))

pub closing_start : (measure : Measure) (class : ℕ) (steps : List Step) (x : Step) (left : List Step) (row : Plateau)
    (old : List Plateau) → steps ≡ x ∷ left → row ≡ valued_step measure class x → AreStepsApart steps
    → IsClosing measure class steps left row old old
closing_start measure class steps x left row old e f r =
    subst (λ z. IsClosing measure class steps left z old old) (sym f)
    (subst (λ z. IsClosing measure class z left (valued_step measure class x) old old) (sym e)
    (record {
      made = [];
      split = sym (append-nil old);
      own = refl;
      goes_on = λ rest h. h;
      apart = valued_apart measure class (x ∷ left) (subst AreStepsApart e r);
    }))

pub closing_joined : (measure : Measure) (class : ℕ) (steps left left' : List Step) (x : Step) (was row next : Plateau)
    (old rows : List Plateau) → left ≡ x ∷ left' → next ≡ valued_step measure class x → Continues was next
    → IsJoined was next row → IsClosing measure class steps left was old rows
    → IsClosing measure class steps left' row old rows
closing_joined measure class steps left left' x was row next old rows e f c j i =
    let i' : IsClosing measure class steps (x ∷ left') was old rows =
    subst (λ z. IsClosing measure class steps z was old rows) e i in
    let y : Plateau = valued_step measure class x in
    let c' : Continues was y = subst (Continues was) f c in
    let j' : IsJoined was y row = subst (λ z. IsJoined was z row) f j in
    record {
      made = i'.made;
      split = i'.split;
      own = j.class_is ∙ i'.own;
      goes_on = λ rest h.
          i'.goes_on rest
          (closed_same class (row ∷ valued measure class left') (was ∷ valued measure class (x ∷ left')) rest
          (joined_at was y row (valued measure class left') c' j') h);
      apart = joined_apart was y row (valued measure class left') c' j' i'.apart;
    }

pub closing_cut : (measure : Measure) (class : ℕ) (steps left left' : List Step) (x : Step) (was next : Plateau)
    (old rows new : List Plateau) → left ≡ x ∷ left' → next ≡ valued_step measure class x → (Continues was next → ⊥)
    → new ≡ rows ++ was ∷ [] → IsClosing measure class steps left was old rows
    → IsClosing measure class steps left' next old new
closing_cut measure class steps left left' x was next old rows new e f not g i =
    let i' : IsClosing measure class steps (x ∷ left') was old rows =
    subst (λ z. IsClosing measure class steps z was old rows) e i in
    let y : Plateau = valued_step measure class x in
    let not' : Continues was y → ⊥ = subst (λ z. Continues was z → ⊥) f not in
    subst (λ z. IsClosing measure class steps left' z old new) (sym f) (record {
      made = i'.made ++ was ∷ [];
      split = g ∙ ap (λ z. z ++ was ∷ []) i'.split ∙ append_assoc old i'.made (was ∷ []);
      own = refl;
      goes_on = λ rest h.
          subst (ListsClosed class (valued measure class steps)) (sym (append_assoc i'.made (was ∷ []) rest))
          (i'.goes_on (was ∷ rest)
          (closed_cut class was (y ∷ valued measure class left') i'.own i'.apart
          (ends_cut was y (valued measure class left') i'.apart not') rest h));
      apart = apart_rest was (y ∷ valued measure class left') i'.apart;
    })

pub closing_end : (measure : Measure) (class : ℕ) (steps left : List Step) (was : Plateau) (old rows new : List Plateau)
    → left ≡ [] → new ≡ rows ++ was ∷ [] → IsClosing measure class steps left was old rows
    → AddsAll PlateauBefore (IsStepPlateau measure class steps) old new
closing_end measure class steps left was old rows new e g i =
    let i' : IsClosing measure class steps [] was old rows =
    subst (λ z. IsClosing measure class steps z was old rows) e i in
    step_plateaus measure class steps old new (i'.made ++ was ∷ [])
    (g ∙ ap (λ z. z ++ was ∷ []) i'.split ∙ append_assoc old i'.made (was ∷ []))
    (i'.goes_on (was ∷ [])
    (closed_cut class was [] i'.own i'.apart (ends_alone was) []
    (IsListOf-none PlateauBefore (IsClosed class []) (none_closed class))))
