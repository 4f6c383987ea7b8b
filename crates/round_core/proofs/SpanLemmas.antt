-- The constant intervals of items of one class, from the intervals before an instant and from it on.
use Rattle.std.proofs.Common.{◌≡◌, ◌⊎◌, ℕ, ◌<◌, ◌≤◌, ◌+◌, cond, List, [], ◌∷◌, ◌++◌, Option, Some, None, get_or, length, length-append, inl, inr, refl, sym, subst, ap, ◌∙◌, arith}
use Rattle.std.specs.Prelude.{ℤ, pos, ◌-ℤ◌, ◌≤ℤ◌, ◌<ℤ◌, All, AllPairs, Contains, MatchOption}
use Rattle.std.proofs.Math.Seq.{get_or-append_seam}
use Rattle.std.proofs.lemmas.Bool.{eq-eqb}
use Rattle.std.proofs.lemmas.Int.{ints}
use Rattle.std.proofs.lemmas.List.{length-map}
use Rattle.std.proofs.lemmas.List.Elements.{Contains-get_or, All-head, All-tail, All-contains, Contains-append_cases, Contains-append_left, Contains-append_right}
use Rattle.period_core.specs.Period.{Holds}
use Rattle.period_core.proofs.PeriodLemmas.{Period-same}
use Rattle.dip_core.specs.declared.item.Item.{Item}
use Rattle.list_core.specs.Wanted.{IsListOf}
use Rattle.grid_core.specs.Bundles.{ClassesRise}
use Rattle.list_core.proofs.RisingLemmas.{AllPairs-head, AllPairs-tail, Contains-head, Contains-cons, Contains-cons_cases, Contains-none}
use Rattle.list_core.proofs.WantedLemmas.{AllPairs-before, IsListOf-append}
use Rattle.merge_core.specs.declared.tally.Tally.{Tally}
use Rattle.merge_core.specs.Gaps.{IsMaximal}
use Rattle.merge_core.specs.Tallies.{amounts, holding, IsTally, total}
use Rattle.merge_core.proofs.MaximalAround.{maximal_around}
use Rattle.merge_core.proofs.SharedLemmas.{by_order, first_held}
use Rattle.round_core.specs.declared.measure.Measure.{Measure}
use Rattle.round_core.specs.declared.plateau.Plateau.{Plateau}
use Rattle.round_core.specs.Plateaus.{of_class, HasValue, IsPlateau, PlateauBefore, ArePlateaus}
use Rattle.work_core.specs.Ranges.{range}
use Rattle.round_core.specs.ClassLists.{HasItem}
use Rattle.round_core.specs.Closing.{Continues, IsJoined}
use Rattle.round_core.specs.Spans.{AreJoined, AreApartAt, AreWithin, AreOfOneClass, AreSpliced, HaveNoJoint, IsJoint}
use Rattle.round_core.proofs.ClosingLemmas.{Plateau-same}
use Rattle.round_core.proofs.CollectLemmas.{no_tally}
use Rattle.round_core.proofs.CutLemmas.{IsCutAt, early_ends, late_starts, early_whole, late_whole, both_whole, whole_early, whole_late, whole_front, whole_back}
use Rattle.round_core.proofs.PlateauExistence.{bounds, holder, one_at, own_item, value_or_not}

-- ---- items of one class

-- items with equal amounts have the same tally
same_tally : (xs ys : List Item) (tally : Tally) → amounts xs ≡ amounts ys → IsTally xs tally → IsTally ys tally
same_tally xs ys tally e i = record {
  count = i.count ∙ sym (length-map xs (λ (x : Item). x.amount)) ∙ ap length e
      ∙ length-map ys (λ (x : Item). x.amount);
  sum = i.sum ∙ ap total e;
  min_in = subst (λ l. Contains l tally.min) e i.min_in;
  min_least = λ a h. i.min_least a (subst (λ l. Contains l a) (sym e) h);
  max_in = subst (λ l. Contains l tally.max) e i.max_in;
  max_greatest = λ a h. i.max_greatest a (subst (λ l. Contains l a) (sym e) h);
}

-- so they have the same value at an instant
same_value : (measure : Measure) (xs ys : List Item) (v t : ℤ) → amounts (holding xs t) ≡ amounts (holding ys t)
    → HasValue measure xs v t → HasValue measure ys v t
same_value measure xs ys v t e h = record {
  tally = h.tally;
  is = same_tally (holding xs t) (holding ys t) h.tally e h.is;
  gives = h.gives;
}

-- items that each have the class of some item here are of the same class
pub owned : (class : ℕ) (items others : List Item) → All (λ (x : Item). x.class ≡ class) items
    → ((x : Item) → Contains others x → HasItem items x.class) → All (λ (x : Item). x.class ≡ class) others
owned class items others own has =
    λ i d h. (let y = has (get_or others i d) (Contains-get_or others i d h) in
    sym y.class_is ∙ All-contains (λ (z : Item). z.class ≡ class) items y.item own y.item_in)

-- so they are in ascending order of class
pub own_rise : (class : ℕ) (items : List Item) → All (λ (x : Item). x.class ≡ class) items → ClassesRise items
own_rise class items own = λ i j d upto inside.
    (let one : (get_or items i d).class ≡ class = own i d (omega (arith, upto, inside)) in
    let other : (get_or items j d).class ≡ class = own j d inside in
    omega (arith, one, other))

-- the items of their class are all items
all_own : (class : ℕ) (items : List Item) → All (λ (x : Item). x.class ≡ class) items → of_class class items ≡ items
all_own class [] own = refl
all_own class (x ∷ items) own =
    ap (λ b. cond b (x ∷ of_class class items) (of_class class items))
    (eq-eqb x.class class (All-head (λ (y : Item). y.class ≡ class) x items own))
    ∙ ap (λ l. x ∷ l) (all_own class items (All-tail (λ (y : Item). y.class ≡ class) x items own))

module _ (measure : Measure) (class : ℕ) (items : List Item) (own : All (λ (x : Item). x.class ≡ class) items) where
  -- a constant interval is of their class
  class_is : (p : Plateau) → IsPlateau measure items p → p.class ≡ class
  class_is p i =
      let m = holder measure (of_class p.class items) p.value p.period.from
      (i.maximal.inside p.period.from (first_held p.period)) in
      let x = own_item p.class items m.0 m.1 in
      sym x.1 ∙ All-contains (λ (y : Item). y.class ≡ class) items m.0 own x.0

  -- and its period is maximal for all items
  maximal_of : (p : Plateau) → IsPlateau measure items p → IsMaximal (HasValue measure items p.value) p.period
  maximal_of p i =
      subst (λ l. IsMaximal (HasValue measure l p.value) p.period)
      (ap (λ k. of_class k items) (class_is p i) ∙ all_own class items own) i.maximal

  plateau_of : (p : Plateau) → p.class ≡ class → IsMaximal (HasValue measure items p.value) p.period
      → IsPlateau measure items p
  plateau_of p e m = record {
    maximal = subst (λ l. IsMaximal (HasValue measure l p.value) p.period)
        (sym (ap (λ k. of_class k items) e ∙ all_own class items own)) m;
  }

  -- there is a constant interval around an instant with a value
  around : (v t : ℤ) → HasValue measure items v t
      → (p : Plateau) × IsPlateau measure items p × Holds p.period t × (p.value ≡ v)
  around v t h =
      let lie = bounds items in
      let m = maximal_around (HasValue measure items v) (value_or_not measure items v) lie.0 lie.1
      (λ u s. let x = holder measure items v u s in (lie.2 x.0 u x.1 x.2).0)
      (λ u s. let x = holder measure items v u s in (lie.2 x.0 u x.1 x.2).1) t h in
      let p : Plateau = record { class = class; period = m.0; value = v } in (p, plateau_of p refl m.2, m.1, refl)

-- ---- lists and their ends

-- the last element of a non-empty list
last_of : {X : Type 0} (xs : List X) (x : X) → Contains xs x → (front : List X) × (last : X) × (xs ≡ front ++ last ∷ [])
last_of [] x h = absurd (Contains-none x h)
last_of (y ∷ []) x h = ([], y, refl)
last_of (y ∷ (z ∷ zs)) x h = let r = last_of (z ∷ zs) z (Contains-head z zs) in
    (y ∷ r.0, r.1, ap (λ l. y ∷ l) r.2)

-- the first element
first_of : {X : Type 0} (xs : List X) (x : X) → Contains xs x → (first : X) × (back : List X) × (xs ≡ first ∷ back)
first_of [] x h = absurd (Contains-none x h)
first_of (y ∷ ys) x h = (y, ys, refl)

module _ {X : Type 0} (R : X → X → Type 0) where
  -- an element before the last one comes before it in order
  before_last : (front : List X) (last x : X) → AllPairs R (front ++ last ∷ []) → Contains front x → R x last
  before_last [] last x ordered h = absurd (Contains-none x h)
  before_last (z ∷ zs) last x ordered h = elim (Contains-cons_cases z zs x h) [
    | inl e ↦ subst (λ w. R w last) e
        (AllPairs-head R z (zs ++ last ∷ []) last ordered (Contains-append_right zs (last ∷ []) last
        (Contains-head last [])))
    | inr k ↦ before_last zs last x (AllPairs-tail R z (zs ++ last ∷ []) ordered) k
  ]

  -- a prefix of a list in order is in order
  front_ordered : (front back : List X) → AllPairs R (front ++ back) → AllPairs R front
  front_ordered [] back ordered = λ i j d less h. absurd (omega arith)
  front_ordered (z ∷ zs) back ordered =
      AllPairs-before R z zs
      (λ y h. AllPairs-head R z (zs ++ back) y ordered (Contains-append_left zs back y h))
      (front_ordered zs back (AllPairs-tail R z (zs ++ back) ordered))

-- ---- clipped items

module _ (measure : Measure) (class : ℕ) (at : ℤ) (items early late : List Item)
    (own : All (λ (x : Item). x.class ≡ class) items) (b : AreWithin (range None (Some at)) items early)
    (f : AreWithin (range (Some at) None) items late) (E L : List Plateau) (one : ArePlateaus measure early E)
    (other : ArePlateaus measure late L) where
  -- the instants with a value are cut
  cut : (v : ℤ) → IsCutAt at (HasValue measure items v) (HasValue measure early v) (HasValue measure late v)
  cut v = record {
    early_in = λ t h. elim (by_order at t) [
      | inl k ↦ absurd (no_tally early t h.tally (b.none t (λ h. (let less : t <ℤ at = h.1 in omega (arith, ints)))) h.is)
      | inr k ↦ (k, same_value measure early items v t (b.same t (tt, k)) h)
    ];
    early_of = λ t k h. same_value measure items early v t (sym (b.same t (tt, k))) h;
    late_in = λ t h. elim (by_order at t) [
      | inl k ↦ (k, same_value measure late items v t (f.same t (k, tt)) h)
      | inr k ↦ absurd (no_tally late t h.tally (f.none t (λ h. (let upto : at ≤ℤ t = h.0 in omega (arith, ints)))) h.is)
    ];
    late_of = λ t k h. same_value measure items late v t (sym (f.same t (k, tt))) h;
  }

  -- The set of instants with one value.
  abbrev Whole : ℤ → ℤ → Type 0
  Whole v = HasValue measure items v

  -- The facts about a constant interval of the early side.
  record IsEarly (a : Plateau) : Type 0 where
    is : IsPlateau measure early a
    own_class : a.class ≡ class
    maximal : IsMaximal (HasValue measure early a.value) a.period
    ends : a.period.to ≤ℤ at

  record IsLate (a : Plateau) : Type 0 where
    is : IsPlateau measure late a
    own_class : a.class ≡ class
    maximal : IsMaximal (HasValue measure late a.value) a.period
    starts : at ≤ℤ a.period.from

  early_is : (a : Plateau) → IsPlateau measure early a → IsEarly a
  early_is a i =
      let m = maximal_of measure class early (owned class items early own b.own) a i in record {
        is = i;
        own_class = class_is measure class early (owned class items early own b.own) a i;
        maximal = m;
        ends = early_ends at (Whole a.value) (HasValue measure early a.value) (HasValue measure late a.value)
            (cut a.value) a.period m;
      }

  late_is : (a : Plateau) → IsPlateau measure late a → IsLate a
  late_is a i =
      let m = maximal_of measure class late (owned class items late own f.own) a i in record {
        is = i;
        own_class = class_is measure class late (owned class items late own f.own) a i;
        maximal = m;
        starts = late_starts at (Whole a.value) (HasValue measure early a.value) (HasValue measure late a.value)
            (cut a.value) a.period m;
      }

  -- an early interval comes before a late one
  across : (a c : Plateau) → IsPlateau measure early a → IsPlateau measure late c → PlateauBefore a c
  across a c i k =
      let x = early_is a i in
      let y = late_is c k in
      let proper : a.period.from <ℤ a.period.to = a.period.ordered in
      let ends : a.period.to ≤ℤ at = x.ends in
      let starts : at ≤ℤ c.period.from = y.starts in
      inr (x.own_class ∙ sym y.own_class, omega (arith, ints))

  -- ---- the interval that ends at the cut, and the one that begins there

  last_one : (front : List Plateau) (last a : Plateau) → E ≡ front ++ last ∷ [] → Contains E a → a.period.to ≡ at
      → a ≡ last
  last_one front last a e h to =
      elim (Contains-append_cases front (last ∷ []) a (subst (λ l. Contains l a) e h)) [
        | inl k ↦
            let last_in : Contains E last =
            subst (λ l. Contains l last) (sym e) (Contains-append_right front (last ∷ []) last (Contains-head last [])) in
            let x = early_is a ((one.exactly a).0 h) in
            let y = early_is last ((one.exactly last).0 last_in) in
            let proper : last.period.from <ℤ last.period.to = last.period.ordered in
            let ends : last.period.to ≤ℤ at = y.ends in
            let same : a.class ≡ last.class = x.own_class ∙ sym y.own_class in
            elim (before_last PlateauBefore front last a (subst (AllPairs PlateauBefore) e one.ordered) k) [
              | inl lower ↦ absurd (omega (arith, lower, same))
              | inr (_, earlier) ↦ one_at measure early a last last.period.from same
                  (omega (arith, ints), omega (arith, ints)) (first_held last.period) x.is y.is
            ]
        | inr k ↦ elim (Contains-cons_cases last [] a k) [ inl i ↦ sym i | inr n ↦ absurd (Contains-none a n) ]
      ]

  first_one : (first : Plateau) (back : List Plateau) (c : Plateau) → L ≡ first ∷ back → Contains L c
      → c.period.from ≡ at → c ≡ first
  first_one first back c e h from =
      elim (Contains-cons_cases first back c (subst (λ l. Contains l c) e h)) [
        | inl i ↦ sym i
        | inr k ↦
            let first_in : Contains L first = subst (λ l. Contains l first) (sym e) (Contains-head first back) in
            let x = late_is first ((other.exactly first).0 first_in) in
            let y = late_is c ((other.exactly c).0 h) in
            let starts : at ≤ℤ first.period.from = x.starts in
            let same : first.class ≡ c.class = x.own_class ∙ sym y.own_class in
            elim (AllPairs-head PlateauBefore first back c (subst (AllPairs PlateauBefore) e other.ordered) k) [
              | inl lower ↦ absurd (omega (arith, lower, same))
              | inr (_, earlier) ↦ absurd (omega (arith, ints))
            ]
      ]

  -- if the items have a value right before the cut, an interval ends there
  ended : (v : ℤ) → Whole v (at -ℤ pos 1) → (a : Plateau) × Contains E a × (a.period.to ≡ at) × (a.value ≡ v)
  ended v h =
      let p = around measure class early (owned class items early own b.own) v (at -ℤ pos 1) ((cut v).early_of (at -ℤ pos 1) (omega (arith, ints)) h) in
      let ends : p.0.period.to ≤ℤ at = (early_is p.0 p.1).ends in
      let over : (at -ℤ pos 1) <ℤ p.0.period.to = p.2.1 in
      (p.0, (one.exactly p.0).1 p.1, omega (arith, ints), p.3)

  -- if they have a value at the cut, an interval begins there
  begun : (v : ℤ) → Whole v at → (c : Plateau) × Contains L c × (c.period.from ≡ at) × (c.value ≡ v)
  begun v h =
      let p = around measure class late (owned class items late own f.own) v at ((cut v).late_of at (omega (arith, ints)) h) in
      let starts : at ≤ℤ p.0.period.from = (late_is p.0 p.1).starts in
      let under : p.0.period.from ≤ℤ at = p.2.0 in
      (p.0, (other.exactly p.0).1 p.1, omega (arith, ints), p.3)

  -- ---- a constant interval of all items

  whole_of_early : (a : Plateau) → IsEarly a → (a.period.to ≡ at → Whole a.value at → ⊥) → IsPlateau measure items a
  whole_of_early a i off =
      plateau_of measure class items own a i.own_class
      (early_whole at (Whole a.value) (HasValue measure early a.value) (HasValue measure late a.value) (cut a.value)
      a.period i.maximal off)

  whole_of_late : (c : Plateau) → IsLate c → (c.period.from ≡ at → Whole c.value (at -ℤ pos 1) → ⊥)
      → IsPlateau measure items c
  whole_of_late c i off =
      plateau_of measure class items own c i.own_class
      (late_whole at (Whole c.value) (HasValue measure early c.value) (HasValue measure late c.value) (cut c.value)
      c.period i.maximal off)

  -- An interval that the cut divides: its part before the cut, and its part from the cut on.
  record IsDivided (x : Plateau) : Type 0 where
    a : Plateau
    c : Plateau
    a_in : Contains E a
    c_in : Contains L c
    a_value : a.value ≡ x.value
    c_value : c.value ≡ x.value
    from : a.period.from ≡ x.period.from
    ends : a.period.to ≡ at
    starts : c.period.from ≡ at
    to : c.period.to ≡ x.period.to

  -- a constant interval of all items is one of either side, or is divided
  sides : (x : Plateau) → IsPlateau measure items x
      → ((x.period.to ≤ℤ at) × IsPlateau measure early x) ⊎ (((at ≤ℤ x.period.from) × IsPlateau measure late x) ⊎ IsDivided x)
  sides x i =
      let m = maximal_of measure class items own x i in
      let k = class_is measure class items own x i in
      let V = Whole x.value in
      let W = HasValue measure early x.value in
      let Z = HasValue measure late x.value in
      elim (by_order x.period.to at) [
        | inl ends ↦ inl (
          ends,
          plateau_of measure class early (owned class items early own b.own) x k (whole_early at V W Z (cut x.value) x.period m ends),
        )
        | inr behind ↦ elim (by_order at x.period.from) [
          | inl starts ↦ inr (inl (
            starts,
            plateau_of measure class late (owned class items late own f.own) x k (whole_late at V W Z (cut x.value) x.period m starts),
          ))
          | inr before ↦
              let p = whole_front at V W Z (cut x.value) x.period m before behind in
              let q = whole_back at V W Z (cut x.value) x.period m before behind in
              let a : Plateau = record { class = class; period = p.0; value = x.value } in
              let c : Plateau = record { class = class; period = q.0; value = x.value } in
              inr (inr (record {
                a = a;
                c = c;
                a_in = (one.exactly a).1 (plateau_of measure class early (owned class items early own b.own) a refl p.1);
                c_in = (other.exactly c).1 (plateau_of measure class late (owned class items late own f.own) c refl q.1);
                a_value = refl;
                c_value = refl;
                from = p.2;
                ends = p.3;
                starts = q.2;
                to = q.3;
              }))
        ]
      ]

  -- ---- both sides joined

  -- if no interval continues another, none goes on across the cut
  not_continued : AreApartAt E L (E ++ L) → (a c : Plateau) → Contains E a → Contains L c → a.period.to ≡ at
      → c.period.from ≡ at → a.value ≡ c.value → ⊥
  not_continued apart a c h k to from same =
      let e = last_of E a h in
      let l = first_of L c k in
      let p : a ≡ e.1 = last_one e.0 e.1 a e.2 h to in
      let q : c ≡ l.0 = first_one l.0 l.1 c l.2 k from in
      apart.off e.0 l.1 e.1 l.0 e.2 l.2 (record {
        touches = ap (λ (z : Plateau). z.period.to) (sym p) ∙ to ∙ sym from ∙ ap (λ (z : Plateau). z.period.from) q;
        same = ap (λ (z : Plateau). z.value) (sym p) ∙ same ∙ ap (λ (z : Plateau). z.value) q;
      })

  are_apart : AreApartAt E L (E ++ L) → ArePlateaus measure items (E ++ L)
  are_apart apart =
      IsListOf-append PlateauBefore (IsPlateau measure early) (IsPlateau measure late) (IsPlateau measure items) E L one
      other across
      (λ a i. whole_of_early a (early_is a i)
      (λ to w. let c = begun a.value w in not_continued apart a c.0 ((one.exactly a).1 i) c.1 to c.2 (sym c.3)))
      (λ c i. whole_of_late c (late_is c i)
      (λ from w. let a = ended c.value w in not_continued apart a.0 c a.1 ((other.exactly c).1 i) a.2 from a.3))
      (λ x i. elim (sides x i) [
        | inl (_, k) ↦ inl k
        | inr rest ↦ elim rest [
          | inl (_, k) ↦ inr k
          | inr d ↦ absurd (not_continued apart d.a d.c d.a_in d.c_in d.ends d.starts (d.a_value ∙ sym d.c_value))
        ]
      ])

  -- if the lists are joined, the intervals before the last one end before the cut, and the intervals after the first
  -- one start after it
  module _ (rows : List Plateau) (j : AreJoined E L rows) where
    last_in : Contains E j.joint.last
    last_in = subst (λ l. Contains l j.joint.last) (sym j.joint.early_is)
        (Contains-append_right j.joint.front (j.joint.last ∷ []) j.joint.last (Contains-head j.joint.last []))

    first_in : Contains L j.joint.first
    first_in = subst (λ l. Contains l j.joint.first) (sym j.joint.late_is) (Contains-head j.joint.first j.joint.back)

    front_in : (a : Plateau) → Contains j.joint.front a → Contains E a
    front_in a h = subst (λ l. Contains l a) (sym j.joint.early_is) (Contains-append_left j.joint.front (j.joint.last ∷ []) a h)

    back_in : (c : Plateau) → Contains j.joint.back c → Contains L c
    back_in c h = subst (λ l. Contains l c) (sym j.joint.late_is) (Contains-cons j.joint.first j.joint.back c h)

    last_is : IsEarly j.joint.last
    last_is = early_is j.joint.last ((one.exactly j.joint.last).0 last_in)

    first_is : IsLate j.joint.first
    first_is = late_is j.joint.first ((other.exactly j.joint.first).0 first_in)

    last_ends : j.joint.last.period.to ≡ at
    last_ends =
        let a : j.joint.last.period.to ≤ℤ at = last_is.ends in
        let c : at ≤ℤ j.joint.first.period.from = first_is.starts in
        let e : j.joint.last.period.to ≡ j.joint.first.period.from = j.joint.continues.touches in
        omega (arith, ints)

    first_starts : j.joint.first.period.from ≡ at
    first_starts = sym j.joint.continues.touches ∙ last_ends

    -- before the last one
    front_before : (a : Plateau) → Contains j.joint.front a → PlateauBefore a j.joint.last
    front_before a h =
        before_last PlateauBefore j.joint.front j.joint.last a (subst (AllPairs PlateauBefore) j.joint.early_is one.ordered) h

    -- after the first one
    back_behind : (c : Plateau) → Contains j.joint.back c → PlateauBefore j.joint.first c
    back_behind c h =
        AllPairs-head PlateauBefore j.joint.first j.joint.back c (subst (AllPairs PlateauBefore) j.joint.late_is other.ordered) h

    not_itself : (a : Plateau) → PlateauBefore a a → ⊥
    not_itself a h = elim h [
      | inl lower ↦ omega (arith, lower)
      | inr (_, earlier) ↦ omega (arith, ints)
    ]

    front_off : (a : Plateau) → Contains j.joint.front a → a.period.to ≡ at → ⊥
    front_off a h to =
        not_itself j.joint.last
        (subst (λ z. PlateauBefore z j.joint.last) (last_one j.joint.front j.joint.last a j.joint.early_is (front_in a h) to) (front_before a h))

    back_off : (c : Plateau) → Contains j.joint.back c → c.period.from ≡ at → ⊥
    back_off c h from =
        not_itself j.joint.first
        (subst (PlateauBefore j.joint.first) (first_one j.joint.first j.joint.back c j.joint.late_is (back_in c h) from) (back_behind c h))

    -- the joined interval
    both_plateau : IsPlateau measure items j.both
    both_plateau =
        plateau_of measure class items own j.both (j.joint.joined.class_is ∙ last_is.own_class)
        (both_whole at (Whole j.both.value) (HasValue measure early j.both.value) (HasValue measure late j.both.value)
        (cut j.both.value) j.joint.last.period j.joint.first.period j.both.period
        (subst (λ v. IsMaximal (HasValue measure early v) j.joint.last.period) (sym j.joint.joined.value) last_is.maximal)
        (subst (λ v. IsMaximal (HasValue measure late v) j.joint.first.period)
        (sym (j.joint.joined.value ∙ j.joint.continues.same)) first_is.maximal)
        last_ends first_starts j.joint.joined.from j.joint.joined.to)

    front_plateau : (a : Plateau) → Contains j.joint.front a → IsPlateau measure items a
    front_plateau a h =
        whole_of_early a (early_is a ((one.exactly a).0 (front_in a h))) (λ to w. front_off a h to)

    back_plateau : (c : Plateau) → Contains j.joint.back c → IsPlateau measure items c
    back_plateau c h = whole_of_late c (late_is c ((other.exactly c).0 (back_in c h))) (λ from w. back_off c h from)

    -- no interval of all items with that value ends or starts at the cut
    not_last : (x : Plateau) → IsPlateau measure items x → x ≡ j.joint.last → ⊥
    not_last x i e =
        let m = maximal_of measure class items own x i in
        let w : Whole j.joint.first.value at =
        ((cut j.joint.first.value).late_in at (first_is.maximal.inside at (
          subst (λ z. z ≤ℤ at) (sym first_starts) (omega (arith, ints)),
          (let proper : j.joint.first.period.from <ℤ j.joint.first.period.to = j.joint.first.period.ordered in
              subst (λ z. z <ℤ j.joint.first.period.to) first_starts proper),
        ))).1 in
        let value : j.joint.first.value ≡ x.value = sym j.joint.continues.same ∙ ap (λ (z : Plateau). z.value) (sym e) in
        let to : x.period.to ≡ at = ap (λ (z : Plateau). z.period.to) e ∙ last_ends in
        m.after (subst (Whole x.value) (sym to) (subst (λ v. Whole v at) value w))

    not_first : (x : Plateau) → IsPlateau measure items x → x ≡ j.joint.first → ⊥
    not_first x i e =
        let m = maximal_of measure class items own x i in
        let proper : j.joint.last.period.from <ℤ j.joint.last.period.to = j.joint.last.period.ordered in
        let over : j.joint.last.period.to ≡ at = last_ends in
        let w : Whole j.joint.last.value (at -ℤ pos 1) =
        ((cut j.joint.last.value).early_in (at -ℤ pos 1)
        (last_is.maximal.inside (at -ℤ pos 1) (omega (arith, ints), omega (arith, ints)))).1 in
        let value : j.joint.last.value ≡ x.value = j.joint.continues.same ∙ ap (λ (z : Plateau). z.value) (sym e) in
        let from : x.period.from ≡ at = ap (λ (z : Plateau). z.period.from) e ∙ first_starts in
        m.before (subst (λ z. Whole x.value (z -ℤ pos 1)) (sym from) (subst (λ v. Whole v (at -ℤ pos 1)) value w))

    -- an interval that the cut divides is the joined one
    divided_is : (x : Plateau) → IsPlateau measure items x → IsDivided x → j.both ≡ x
    divided_is x i d =
        let a : d.a ≡ j.joint.last = last_one j.joint.front j.joint.last d.a j.joint.early_is d.a_in d.ends in
        let c : d.c ≡ j.joint.first = first_one j.joint.first j.joint.back d.c j.joint.late_is d.c_in d.starts in
        Plateau-same j.both x
        (j.joint.joined.class_is ∙ last_is.own_class ∙ sym (class_is measure class items own x i))
        (Period-same j.both.period x.period
        (j.joint.joined.from ∙ ap (λ (z : Plateau). z.period.from) (sym a) ∙ d.from)
        (j.joint.joined.to ∙ ap (λ (z : Plateau). z.period.to) (sym c) ∙ d.to))
        (j.joint.joined.value ∙ ap (λ (z : Plateau). z.value) (sym a) ∙ d.a_value)

    -- The joined interval, or one after it.
    abbrev Behind : Plateau → Type 0
    Behind x = (j.both ≡ x) ⊎ Contains j.joint.back x

    before_back : (c : Plateau) → Contains j.joint.back c → PlateauBefore j.both c
    before_back c h =
        let k = back_behind c h in
        let y = late_is c ((other.exactly c).0 (back_in c h)) in
        let proper : j.joint.last.period.from <ℤ j.joint.last.period.to = j.joint.last.period.ordered in
        let over : j.joint.last.period.to ≡ at = last_ends in
        let starts : at ≤ℤ c.period.from = y.starts in
        let from : j.both.period.from ≡ j.joint.last.period.from = j.joint.joined.from in
        inr (j.joint.joined.class_is ∙ last_is.own_class ∙ sym y.own_class, omega (arith, ints))

    front_list : IsListOf PlateauBefore (Contains j.joint.front) j.joint.front
    front_list = record {
      ordered = front_ordered PlateauBefore j.joint.front (j.joint.last ∷ [])
          (subst (AllPairs PlateauBefore) j.joint.early_is one.ordered);
      exactly = λ x. (λ h. h, λ h. h);
    }

    behind_list : IsListOf PlateauBefore Behind (j.both ∷ j.joint.back)
    behind_list = record {
      ordered = AllPairs-before PlateauBefore j.both j.joint.back before_back
          (AllPairs-tail PlateauBefore j.joint.first j.joint.back (subst (AllPairs PlateauBefore) j.joint.late_is other.ordered));
      exactly = λ x. (
        λ h. Contains-cons_cases j.both j.joint.back x h,
        λ h. elim h [
          | inl e ↦ subst (Contains (j.both ∷ j.joint.back)) e (Contains-head j.both j.joint.back)
          | inr k ↦ Contains-cons j.both j.joint.back x k
        ],
      );
    }

    in_order : (a x : Plateau) → Contains j.joint.front a → Behind x → PlateauBefore a x
    in_order a x h k = elim k [
      | inl e ↦ subst (PlateauBefore a) e (elim (front_before a h) [
        | inl lower ↦ inl (subst (λ n. a.class < n) (sym j.joint.joined.class_is) lower)
        | inr (same, earlier) ↦ inr (
          same ∙ sym j.joint.joined.class_is,
          subst (λ z. a.period.from <ℤ z) (sym j.joint.joined.from) earlier,
        )
      ])
      | inr c ↦ across a x ((one.exactly a).0 (front_in a h)) ((other.exactly x).0 (back_in x c))
    ]

    are_joined : ArePlateaus measure items rows
    are_joined =
        subst (ArePlateaus measure items) (sym j.rows_are)
        (IsListOf-append PlateauBefore (Contains j.joint.front) Behind (IsPlateau measure items) j.joint.front (j.both ∷ j.joint.back)
        front_list behind_list in_order front_plateau
        (λ x k. elim k [ inl e ↦ subst (IsPlateau measure items) e both_plateau | inr c ↦ back_plateau x c ])
        (λ x i. elim (sides x i) [
          | inl (_, k) ↦
              elim (Contains-append_cases j.joint.front (j.joint.last ∷ []) x
              (subst (λ l. Contains l x) j.joint.early_is ((one.exactly x).1 k))) [
                | inl h ↦ inl h
                | inr h ↦ elim (Contains-cons_cases j.joint.last [] x h) [
                  | inl e ↦ absurd (not_last x i (sym e))
                  | inr n ↦ absurd (Contains-none x n)
                ]
              ]
          | inr rest ↦ elim rest [
            | inl (_, k) ↦
                elim (Contains-cons_cases j.joint.first j.joint.back x (subst (λ l. Contains l x) j.joint.late_is ((other.exactly x).1 k))) [
                  | inl e ↦ absurd (not_first x i (sym e))
                  | inr h ↦ inr (inr h)
                ]
            | inr d ↦ inr (inl (divided_is x i d))
          ]
        ]))

  pub ArePlateaus-spliced : (rows : List Plateau) → AreSpliced E L rows → ArePlateaus measure items rows
  ArePlateaus-spliced rows s = elim s [
    | inl j ↦ are_joined rows j
    | inr apart ↦ subst (ArePlateaus measure items) (sym apart.rows_are)
        (are_apart (record { off = apart.off; rows_are = refl }))
  ]

-- ---- joining two lists

-- a list has one last element
last_same : {X : Type 0} (xs ys : List X) (x y : X) → xs ++ x ∷ [] ≡ ys ++ y ∷ [] → x ≡ y
last_same [] [] x y e = cc
last_same [] (z ∷ zs) x y e =
    let a : 1 ≡ length (z ∷ (zs ++ y ∷ [])) = ap length e in
    let n = length-append zs (y ∷ []) in
    absurd (omega (arith, a, n))
last_same (z ∷ zs) [] x y e =
    let a : length (z ∷ (zs ++ x ∷ [])) ≡ 1 = ap length e in
    let n = length-append zs (x ∷ []) in
    absurd (omega (arith, a, n))
last_same (z ∷ zs) (w ∷ ws) x y e = last_same zs ws x y (rest_same z w (zs ++ x ∷ []) (ws ++ y ∷ []) e)
  where
    rest_same : {Y : Type 0} (a b : Y) (us vs : List Y) → a ∷ us ≡ b ∷ vs → us ≡ vs
    rest_same a b us vs h = cc

-- the lists have a joint exactly if the last interval of one and the first of the other join
pub joint_known : (early late front back : List Plateau) (last first : Plateau) → early ≡ front ++ last ∷ []
    → late ≡ first ∷ back → (o : Option Plateau)
    → MatchOption o (Continues last first → ⊥) (λ both. Continues last first × IsJoined last first both)
    → MatchOption o (HaveNoJoint early late) (IsJoint early late)
joint_known early late front back last first e l None off = λ f b x y i k c.
    (let same : last ≡ x = last_same front f last x (sym e ∙ i) in
    let alike : first ≡ y = head_same first y back b (sym l ∙ k) in
    off (subst (λ z. Continues z first) (sym same) (subst (λ z. Continues x z) (sym alike) c)))
  where
    head_same : (a b : Plateau) (us vs : List Plateau) → a ∷ us ≡ b ∷ vs → a ≡ b
    head_same a b us vs h = cc
joint_known early late front back last first e l (Some both) h = record {
  front = front;
  last = last;
  first = first;
  back = back;
  early_is = e;
  late_is = l;
  continues = h.0;
  joined = h.1;
}

-- ---- one class

-- if the last item of a list in ascending order of class has no higher class than the first, all are of that class
pub one_class : (items later front : List Item) (first last : Item) → ClassesRise items → items ≡ first ∷ later
    → items ≡ front ++ last ∷ [] → last.class ≤ first.class → AreOfOneClass items
one_class items later front first last rise e f upto = record {
  class = first.class;
  own = λ i d h. (let count : length items ≡ length front + 1 = ap length f ∙ length-append front (last ∷ []) in
      let a : get_or items 0 d ≡ first = ap (λ l. get_or l 0 d) e in
      let b : get_or items (length front) d ≡ last =
      ap (λ l. get_or l (length front) d) f ∙ get_or-append_seam front last [] d in
      let lo : first.class ≤ (get_or items i d).class =
      subst (λ (x : Item). x.class ≤ (get_or items i d).class) a (rise 0 i d (omega arith) h) in
      let hi : (get_or items i d).class ≤ last.class =
      subst (λ (x : Item). (get_or items i d).class ≤ x.class) b
      (rise i (length front) d (omega (arith, count, h)) (omega (arith, count))) in
      omega (arith, lo, hi, upto));
}
