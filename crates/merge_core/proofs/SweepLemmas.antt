-- The gaps of one left item, while the right items are passed.
use Rattle.std.proofs.Common.{◌≡◌, ◌⊎◌, List, [], ◌∷◌, ◌++◌, inl, inr, sym, subst, ap, ◌∙◌, arith, append-nil}
use Rattle.std.specs.Prelude.{ℤ, pos, ◌-ℤ◌, ◌≤ℤ◌, ◌<ℤ◌, Contains}
use Rattle.std.specs.Int.{int_max}
use Rattle.std.proofs.lemmas.Int.{ints, clamps}
use Rattle.period_core.specs.declared.period.Period.{Period}
use Rattle.period_core.specs.Period.{Holds}
use Rattle.dip_core.specs.declared.item.Item.{Item}
use Rattle.dip_core.specs.Item.{IsChain}
use Rattle.list_core.specs.Wanted.{IsListOf, AddsAll}
use Rattle.list_core.proofs.RisingLemmas.{Contains-head, Contains-cons, Contains-cons_cases}
use Rattle.list_core.proofs.WantedLemmas.{IsListOf-append, IsListOf-same, IsListOf-none, IsListOf-one}
use Rattle.period_core.proofs.PeriodLemmas.{Period-same}
use Rattle.merge_core.specs.declared.gap.Gap.{Gap}
use Rattle.merge_core.specs.Gaps.{IsCovered, IsUncovered, IsMaximal, GapStartsBefore}
use Rattle.merge_core.specs.Sweep.{IsGapOf, IsBetween, IsUncoveredFrom, IsGapFrom, ListsGapsFrom, Covers, HasGapBefore}
use Rattle.merge_core.proofs.SharedLemmas.{by_order, first_held}
use Rattle.merge_core.proofs.PartLemmas.{chain_head}

gap_made : Item → Period → Gap
gap_made l p = record { left = l; period = p }

-- a gap is determined by its item and its period
pub Gap-same : (h k : Gap) → h.left ≡ k.left → h.period ≡ k.period → h ≡ k
unfolding gap_made
Gap-same h k e g = ap (λ l. gap_made l h.period) e ∙ ap (λ p. gap_made k.left p) g

-- equal sets have the same maximal periods
pub IsMaximal-same : (S R : ℤ → Type 0) (p : Period) → ((t : ℤ) → S t → R t) → ((t : ℤ) → R t → S t)
    → IsMaximal S p → IsMaximal R p
IsMaximal-same S R p to back m =
    record {
      inside = λ t h. to t (m.inside t h);
      before = λ r. m.before (back (p.from -ℤ pos 1) r);
      after = λ r. m.after (back p.to r);
    }

-- the gap between two instants, if there is one
pub between_one : (x : Item) (from to : ℤ) (g : Gap) → IsBetween x from to g
    → IsListOf GapStartsBefore (IsBetween x from to) (g ∷ [])
between_one x from to g i =
    IsListOf-one GapStartsBefore (IsBetween x from to) g i
    (λ k j. Gap-same g k (i.left ∙ sym j.left) (Period-same g.period k.period (i.from ∙ sym j.from) (i.to ∙ sym j.to)))

pub between_none : (x : Item) (from to : ℤ) → to ≤ℤ from → IsListOf GapStartsBefore (IsBetween x from to) []
between_none x from to h =
    IsListOf-none GapStartsBefore (IsBetween x from to)
    (λ g i.
    let proper : g.period.from <ℤ g.period.to = g.period.ordered in
    let f = i.from in
    let e = i.to in
    let out : ⊥ = omega (arith, ints) in out)

-- an item of another class covers nothing
module _ (x y : Item) (later : List Item) (at : ℤ) (other : y.class ≡ x.class → ⊥) where
  unmatched_to : (t : ℤ) → IsUncoveredFrom later x at t → IsUncoveredFrom (y ∷ later) x at t
  unmatched_to t f = record {
    from = f.from;
    to = f.to;
    uncovered = λ c. elim (Contains-cons_cases y later c.by c.by_in) [
      | inl e ↦ other (ap (λ (z : Item). z.class) e ∙ c.matches)
      | inr k ↦ f.uncovered (record { by = c.by; by_in = k; matches = c.matches; holds = c.holds })
    ];
  }

  unmatched_back : (t : ℤ) → IsUncoveredFrom (y ∷ later) x at t → IsUncoveredFrom later x at t
  unmatched_back t f = record {
    from = f.from;
    to = f.to;
    uncovered = λ c. f.uncovered (record {
      by = c.by;
      by_in = Contains-cons y later c.by c.by_in;
      matches = c.matches;
      holds = c.holds;
    });
  }

  pub unmatched_gap : (g : Gap) → IsGapFrom later x at g → IsGapFrom (y ∷ later) x at g
  unmatched_gap g i = record {
    left = i.left;
    maximal = IsMaximal-same (IsUncoveredFrom later x at) (IsUncoveredFrom (y ∷ later) x at) g.period
        unmatched_to unmatched_back i.maximal;
  }

  gap_unmatched : (g : Gap) → IsGapFrom (y ∷ later) x at g → IsGapFrom later x at g
  gap_unmatched g i = record {
    left = i.left;
    maximal = IsMaximal-same (IsUncoveredFrom (y ∷ later) x at) (IsUncoveredFrom later x at) g.period
        unmatched_back unmatched_to i.maximal;
  }

  pub unmatched : (gaps : List Gap) → ListsGapsFrom later x at gaps → ListsGapsFrom (y ∷ later) x at gaps
  unmatched gaps a =
      IsListOf-same GapStartsBefore (IsGapFrom later x at) (IsGapFrom (y ∷ later) x at) gaps
      unmatched_gap gap_unmatched a

-- `y` has the class of `x`: first the gap before `y`, and then the gaps from its end on
module _ (x y : Item) (later : List Item) (at next : ℤ) (same : y.class ≡ x.class) (part : IsChain (y ∷ later))
    (early : y.period.from <ℤ x.period.to) (at_next : at ≤ℤ next) (y_next : y.period.to ≤ℤ next)
    (least : (t : ℤ) → at ≤ℤ t → y.period.to ≤ℤ t → next ≤ℤ t) where
  by_y : (t : ℤ) → Holds y.period t → IsCovered (y ∷ later) x t
  by_y t h = record { by = y; by_in = Contains-head y later; matches = same; holds = h }

  -- before `y` starts, no right item holds
  before_y : (t : ℤ) → t <ℤ y.period.from → IsCovered (y ∷ later) x t → ⊥
  before_y t h c = elim (Contains-cons_cases y later c.by c.by_in) [
    | inl e ↦ (
        let same_from : y.period.from ≡ c.by.period.from = ap (λ (z : Item). z.period.from) e in
        let k = c.holds in omega (arith, ints))
    | inr k ↦ (
        let after : y.period.to ≤ℤ c.by.period.from = chain_head y later part c.by k in
        let proper : y.period.from <ℤ y.period.to = y.period.ordered in
        let m = c.holds in omega (arith, ints))
  ]

  -- from the end of `y` on, an instant is uncovered if the later items leave it uncovered
  from_later : (t : ℤ) → IsUncoveredFrom later x next t → IsUncoveredFrom (y ∷ later) x at t
  from_later t f =
      let on : next ≤ℤ t = f.from in
      record {
        from = omega (arith, ints);
        to = f.to;
        uncovered = λ c. elim (Contains-cons_cases y later c.by c.by_in) [
          | inl e ↦ (
              let same_to : y.period.to ≡ c.by.period.to = ap (λ (z : Item). z.period.to) e in
              let k = c.holds in omega (arith, ints))
          | inr k ↦ f.uncovered (record { by = c.by; by_in = k; matches = c.matches; holds = c.holds })
        ];
      }

  to_later : (t : ℤ) → next ≤ℤ t → IsUncoveredFrom (y ∷ later) x at t → IsUncoveredFrom later x next t
  to_later t on f = record {
    from = on;
    to = f.to;
    uncovered = λ c. f.uncovered (record {
      by = c.by;
      by_in = Contains-cons y later c.by c.by_in;
      matches = c.matches;
      holds = c.holds;
    });
  }

  pub gap_before : (g : Gap) → IsBetween x at y.period.from g → IsGapFrom (y ∷ later) x at g
  gap_before g b =
      let f = b.from in
      let e = b.to in
      let proper : y.period.from <ℤ y.period.to = y.period.ordered in
      record {
        left = b.left;
        maximal = record {
          inside = λ t h. record {
            from = omega (arith, ints);
            to = omega (arith, ints);
            uncovered = before_y t (omega (arith, ints));
          };
          before = λ r. (let k = r.from in omega (arith, ints));
          after = λ r. r.uncovered (by_y g.period.to (omega (arith, ints), omega (arith, ints)));
        };
      }

  -- the instant before a later gap is covered
  before_later : (g : Gap) → IsGapFrom later x next g → IsUncoveredFrom (y ∷ later) x at (g.period.from -ℤ pos 1) → ⊥
  before_later g b r =
      elim (by_order next (g.period.from -ℤ pos 1)) [
        | inl k ↦ b.maximal.before (to_later (g.period.from -ℤ pos 1) k r)
        | inr k ↦ (
            let at_least : at ≤ℤ (g.period.from -ℤ pos 1) = r.from in
            let first : IsUncoveredFrom later x next g.period.from =
            b.maximal.inside g.period.from (first_held g.period) in
            let on : next ≤ℤ g.period.from = first.from in
            elim (by_order y.period.to (g.period.from -ℤ pos 1)) [
              | inl m ↦ (
                  let n : next ≤ℤ (g.period.from -ℤ pos 1) = least (g.period.from -ℤ pos 1) at_least m in
                  omega (arith, ints))
              | inr m ↦ r.uncovered (by_y (g.period.from -ℤ pos 1) (
                (let yp : y.period.from <ℤ y.period.to = y.period.ordered in omega (arith, ints)),
                m,
              ))
            ])
      ]

  pub gap_later : (g : Gap) → IsGapFrom later x next g → IsGapFrom (y ∷ later) x at g
  gap_later g b =
      let first : IsUncoveredFrom later x next g.period.from = b.maximal.inside g.period.from (first_held g.period) in
      let on : next ≤ℤ g.period.from = first.from in
      let proper : g.period.from <ℤ g.period.to = g.period.ordered in
      record {
        left = b.left;
        maximal = record {
          inside = λ t h. from_later t (b.maximal.inside t h);
          before = before_later g b;
          after = λ r. b.maximal.after (to_later g.period.to (omega (arith, ints)) r);
        };
      }

  -- a gap that starts before `y` ends where `y` starts
  first_gap : (g : Gap) → IsGapFrom (y ∷ later) x at g → g.period.from <ℤ y.period.from → IsBetween x at y.period.from g
  first_gap g b h =
      let first : IsUncoveredFrom (y ∷ later) x at g.period.from =
      b.maximal.inside g.period.from (first_held g.period) in
      let proper : g.period.from <ℤ g.period.to = g.period.ordered in
      let yp : y.period.from <ℤ y.period.to = y.period.ordered in
      let ends : g.period.to ≤ℤ y.period.from =
      elim (by_order g.period.to y.period.from) [
        | inl k ↦ k
        | inr k ↦ absurd ((b.maximal.inside y.period.from (omega (arith, ints), k)).uncovered
            (by_y y.period.from (omega (arith, ints), yp)))
      ] in
      let starts : g.period.from ≡ at =
      elim (by_order g.period.from at) [
        | inl k ↦ (let l : at ≤ℤ g.period.from = first.from in omega (arith, ints))
        | inr k ↦ absurd (b.maximal.before (record {
          from = omega (arith, ints);
          to = omega (arith, ints);
          uncovered = before_y (g.period.from -ℤ pos 1) (omega (arith, ints));
        }))
      ] in
      let stops : g.period.to ≡ y.period.from =
      elim (by_order y.period.from g.period.to) [
        | inl k ↦ omega (arith, ints)
        | inr k ↦ absurd (b.maximal.after (record {
          from = omega (arith, ints);
          to = omega (arith, ints);
          uncovered = before_y g.period.to k;
        }))
      ] in
      record { left = b.left; from = starts; to = stops }

  -- any other gap is a gap of the later items
  later_gap : (g : Gap) → IsGapFrom (y ∷ later) x at g → y.period.from ≤ℤ g.period.from → IsGapFrom later x next g
  later_gap g b h =
      let first : IsUncoveredFrom (y ∷ later) x at g.period.from =
      b.maximal.inside g.period.from (first_held g.period) in
      let proper : g.period.from <ℤ g.period.to = g.period.ordered in
      let past : y.period.to ≤ℤ g.period.from =
      elim (by_order y.period.to g.period.from) [
        | inl k ↦ k
        | inr k ↦ absurd (first.uncovered (by_y g.period.from (h, k)))
      ] in
      let on : next ≤ℤ g.period.from = least g.period.from first.from past in
      record {
        left = b.left;
        maximal = record {
          inside =
              λ t k. to_later t (let f : g.period.from ≤ℤ t = k.0 in omega (arith, ints)) (b.maximal.inside t k);
          before = λ r. b.maximal.before (from_later (g.period.from -ℤ pos 1) r);
          after = λ r. b.maximal.after (from_later g.period.to r);
        };
      }

  gap_cases : (g : Gap) → IsGapFrom (y ∷ later) x at g → IsBetween x at y.period.from g ⊎ IsGapFrom later x next g
  gap_cases g b =
      elim (by_order y.period.from g.period.from) [
        | inr h ↦ inl (first_gap g b h)
        | inl h ↦ inr (later_gap g b h)
      ]

  pub matched : (now rest : List Gap) → IsListOf GapStartsBefore (IsBetween x at y.period.from) now
      → ListsGapsFrom later x next rest → ListsGapsFrom (y ∷ later) x at (now ++ rest)
  matched now rest a b =
      IsListOf-append GapStartsBefore (IsBetween x at y.period.from) (IsGapFrom later x next)
      (IsGapFrom (y ∷ later) x at) now rest a b
      (λ g k m n.
      let f = m.from in
      let e = m.to in
      let gp : g.period.from <ℤ g.period.to = g.period.ordered in
      let yp : y.period.from <ℤ y.period.to = y.period.ordered in
      let on : next ≤ℤ k.period.from = (n.maximal.inside k.period.from (first_held k.period)).from in
      omega (arith, ints))
      gap_before gap_later gap_cases

-- no right item starts before the end of `x`: everything from `at` on is uncovered
module _ (x : Item) (later : List Item) (at : ℤ)
    (out : (z : Item) → Contains later z → x.period.to ≤ℤ z.period.from) where
  free : (t : ℤ) → t <ℤ x.period.to → IsCovered later x t → ⊥
  free t h c =
      let o : x.period.to ≤ℤ c.by.period.from = out c.by c.by_in in
      let k = c.holds in omega (arith, ints)

  pub clear_gap : (g : Gap) → IsBetween x at x.period.to g → IsGapFrom later x at g
  clear_gap g b =
      let f = b.from in
      let e = b.to in
      record {
        left = b.left;
        maximal = record {
          inside = λ t h. record {
            from = omega (arith, ints);
            to = omega (arith, ints);
            uncovered = free t (omega (arith, ints));
          };
          before = λ r. (let k = r.from in omega (arith, ints));
          after = λ r. (let k = r.to in omega (arith, ints));
        };
      }

  gap_clear : (g : Gap) → IsGapFrom later x at g → IsBetween x at x.period.to g
  gap_clear g b =
      let first : IsUncoveredFrom later x at g.period.from = b.maximal.inside g.period.from (first_held g.period) in
      let proper : g.period.from <ℤ g.period.to = g.period.ordered in
      let ends : g.period.from <ℤ x.period.to = first.to in
      let starts : g.period.from ≡ at =
      elim (by_order g.period.from at) [
        | inl k ↦ (let l : at ≤ℤ g.period.from = first.from in omega (arith, ints))
        | inr k ↦ absurd (b.maximal.before (record {
          from = omega (arith, ints);
          to = omega (arith, ints);
          uncovered = free (g.period.from -ℤ pos 1) (omega (arith, ints));
        }))
      ] in
      let last : IsUncoveredFrom later x at (g.period.to -ℤ pos 1) =
      b.maximal.inside (g.period.to -ℤ pos 1) (omega (arith, ints), omega (arith, ints)) in
      let stops : g.period.to ≡ x.period.to =
      elim (by_order x.period.to g.period.to) [
        | inl k ↦ (let l : (g.period.to -ℤ pos 1) <ℤ x.period.to = last.to in omega (arith, ints))
        | inr k ↦ absurd (b.maximal.after (record {
          from = omega (arith, ints);
          to = k;
          uncovered = free g.period.to k;
        }))
      ] in
      record { left = b.left; from = starts; to = stops }

  pub clear : (gaps : List Gap) → IsListOf GapStartsBefore (IsBetween x at x.period.to) gaps
      → ListsGapsFrom later x at gaps
  clear gaps a =
      IsListOf-same GapStartsBefore (IsBetween x at x.period.to) (IsGapFrom later x at) gaps clear_gap gap_clear a

-- from the start of `x` on, these are all its gaps
module _ (x : Item) (right : List Item) where
  held_from : (t : ℤ) → IsUncoveredFrom right x x.period.from t → IsUncovered right x t
  held_from t f = record { held = (f.from, f.to); uncovered = f.uncovered }

  from_held : (t : ℤ) → IsUncovered right x t → IsUncoveredFrom right x x.period.from t
  from_held t f = record { from = f.held.0; to = f.held.1; uncovered = f.uncovered }

  pub gap_of_whole : (g : Gap) → IsGapFrom right x x.period.from g → IsGapOf right x g
  gap_of_whole g i = record {
    left = i.left;
    maximal = IsMaximal-same (IsUncoveredFrom right x x.period.from) (IsUncovered right x) g.period
        held_from from_held i.maximal;
  }

  whole_of_gap : (g : Gap) → IsGapOf right x g → IsGapFrom right x x.period.from g
  whole_of_gap g i = record {
    left = i.left;
    maximal = IsMaximal-same (IsUncovered right x) (IsUncoveredFrom right x x.period.from) g.period
        from_held held_from i.maximal;
  }

  pub gaps_of_whole : (gaps : List Gap) → ListsGapsFrom right x x.period.from gaps
      → IsListOf GapStartsBefore (IsGapOf right x) gaps
  gaps_of_whole gaps a =
      IsListOf-same GapStartsBefore (IsGapFrom right x x.period.from) (IsGapOf right x) gaps
      gap_of_whole whole_of_gap a

-- one gap was added
pub adds_between : (x : Item) (from to : ℤ) (old new : List Gap) (g : Gap) → new ≡ old ++ g ∷ [] → g.left ≡ x
    → g.period.from ≡ from → g.period.to ≡ to → AddsAll GapStartsBefore (IsBetween x from to) old new
adds_between x from to old new g e l f t =
    record { added = g ∷ []; split = e; all = between_one x from to g (record { left = l; from = f; to = t }) }

pub covers_unmatched : (x y : Item) (at next : ℤ) (old : List Gap) → next ≡ at → (y.class ≡ x.class → ⊥)
    → Covers x y at old old next
covers_unmatched x y at next old e other =
    record {
      added = [];
      split = sym (append-nil old);
      goes_on = λ later part rest r. unmatched x y later at other rest (subst (λ z. ListsGapsFrom later x z rest) e r);
      within = λ later part g i. unmatched_gap x y later at other g (subst (λ z. IsGapFrom later x z g) e i);
    }

pub covers_matched : (x y : Item) (at at' start next : ℤ) (old new : List Gap) → at' ≡ at → start ≡ y.period.from
    → y.class ≡ x.class → y.period.from <ℤ x.period.to → at ≤ℤ next → y.period.to ≤ℤ next
    → ((t : ℤ) → at ≤ℤ t → y.period.to ≤ℤ t → next ≤ℤ t)
    → AddsAll GapStartsBefore (IsBetween x at' start) old new → Covers x y at old new next
covers_matched x y at at' start next old new e f same early at_next y_next least a =
    let b : AddsAll GapStartsBefore (IsBetween x at y.period.from) old new =
    subst (λ z. AddsAll GapStartsBefore (IsBetween x at z) old new) f
    (subst (λ z. AddsAll GapStartsBefore (IsBetween x z start) old new) e a) in
    record {
      added = b.added;
      split = b.split;
      goes_on = λ later part rest r.
          matched x y later at next same part early at_next y_next least b.added rest b.all r;
      within = λ later part g i. gap_later x y later at next same part early at_next y_next least g i;
    }

-- the gap before `y` is a gap of `x`
pub gap_found : (x y : Item) (at at' start : ℤ) → at' ≡ at → start ≡ y.period.from → y.class ≡ x.class
    → y.period.from <ℤ x.period.to → (g : Gap) → IsBetween x at' start g → HasGapBefore x y at
gap_found x y at at' start e f same early g b =
    record {
      gap = g;
      is = λ later part.
          gap_before x y later at (int_max at y.period.to) same part early (omega (arith, ints, clamps))
          (omega (arith, ints, clamps)) (λ t h k. omega (arith, ints, clamps)) g
          (subst (λ z. IsBetween x at z g) f (subst (λ z. IsBetween x z start g) e b));
    }
