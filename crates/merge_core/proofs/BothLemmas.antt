-- The gaps against two right lists together are what the gaps against each of them share.
use Rattle.std.proofs.Common.{◌≡◌, List, [], ◌∷◌, ◌++◌, ◌⊎◌, inl, inr, refl, sym, subst, ap, ◌∙◌, arith}
use Rattle.std.specs.Prelude.{ℤ, pos, ◌-ℤ◌, ◌<ℤ◌, Contains}
use Rattle.std.proofs.lemmas.Int.{ints}
use Rattle.std.proofs.lemmas.Bool.{cases_eq}
use Rattle.std.proofs.lemmas.List.Elements.{Contains-append_left, Contains-append_right, Contains-append_cases}
use Rattle.period_core.specs.declared.period.Period.{Period}
use Rattle.period_core.specs.Period.{Holds}
use Rattle.dip_core.specs.declared.item.Item.{Item}
use Rattle.list_core.specs.Wanted.{IsListOf}
use Rattle.list_core.proofs.RisingLemmas.{Contains-head, Contains-cons, Contains-cons_cases, Contains-none}
use Rattle.list_core.proofs.WantedLemmas.{IsListOf-same}
use Rattle.merge_core.specs.declared.gap.Gap.{Gap}
use Rattle.merge_core.specs.Hits.{IsShared}
use Rattle.merge_core.specs.Gaps.{IsCovered, IsUncovered, IsMaximal, IsGap, GapStartsBefore, ListsGaps}
use Rattle.merge_core.specs.Meets.{IsMeet, IdsTell}
use Rattle.merge_core.proofs.MaximalAround.{maximal_around}
use Rattle.merge_core.proofs.SharedLemmas.{by_order, first_held}

-- ---- it is decidable whether an instant is covered

holds_test : (p : Period) (t : ℤ) → Holds p t ⊎ (Holds p t → ⊥)
holds_test p t =
    elim (by_order p.from t) [
      | inl h ↦ elim (by_order p.to t) [ inl k ↦ inr (λ i. let e = i.1 in omega (arith, ints)) | inr k ↦ inl (h, k) ]
      | inr h ↦ inr (λ i. let e = i.0 in omega (arith, ints))
    ]

covers_test : (y x : Item) (t : ℤ)
    → ((y.class ≡ x.class) × Holds y.period t) ⊎ (y.class ≡ x.class → Holds y.period t → ⊥)
covers_test y x t =
    elim (cases_eq y.class x.class) [
      | inl same ↦ elim (holds_test y.period t) [ inl h ↦ inl (same, h) | inr out ↦ inr (λ e h. out h) ]
      | inr other ↦ inr (λ e h. other e)
    ]

pub covered_test : (q : List Item) (x : Item) (t : ℤ) → IsCovered q x t ⊎ (IsCovered q x t → ⊥)
covered_test [] x t = inr (λ c. Contains-none c.by c.by_in)
covered_test (y ∷ q) x t =
    elim (covered_test q x t) [
      | inl c ↦ inl (record {
        by = c.by;
        by_in = Contains-cons y q c.by c.by_in;
        matches = c.matches;
        holds = c.holds;
      })
      | inr none ↦ elim (covers_test y x t) [
        | inl (same, h) ↦ inl (record { by = y; by_in = Contains-head y q; matches = same; holds = h })
        | inr out ↦ inr (λ c. elim (Contains-cons_cases y q c.by c.by_in) [
          | inl e ↦
              out (ap (λ (v : Item). v.class) e ∙ c.matches) (subst (λ (v : Item). Holds v.period t) (sym e) c.holds)
          | inr k ↦ none (record { by = c.by; by_in = k; matches = c.matches; holds = c.holds })
        ])
      ]
    ]

uncovered_test : (q : List Item) (x : Item) (t : ℤ) → IsUncovered q x t ⊎ (IsUncovered q x t → ⊥)
uncovered_test q x t =
    elim (holds_test x.period t) [
      | inl h ↦ elim (covered_test q x t) [
        | inl c ↦ inr (λ f. f.uncovered c)
        | inr n ↦ inl (record { held = h; uncovered = n })
      ]
      | inr n ↦ inr (λ f. n f.held)
    ]

-- ---- an instant is uncovered by both lists if it is uncovered by each

uncovered_by_both : (q r : List Item) (x : Item) (t : ℤ) → IsUncovered q x t → IsUncovered r x t
    → IsUncovered (q ++ r) x t
uncovered_by_both q r x t a b =
    record {
      held = a.held;
      uncovered = λ c. elim (Contains-append_cases q r c.by c.by_in) [
        | inl k ↦ a.uncovered (record { by = c.by; by_in = k; matches = c.matches; holds = c.holds })
        | inr k ↦ b.uncovered (record { by = c.by; by_in = k; matches = c.matches; holds = c.holds })
      ];
    }

uncovered_by_left : (q r : List Item) (x : Item) (t : ℤ) → IsUncovered (q ++ r) x t → IsUncovered q x t
uncovered_by_left q r x t a =
    record {
      held = a.held;
      uncovered = λ c. a.uncovered (record {
        by = c.by;
        by_in = Contains-append_left q r c.by c.by_in;
        matches = c.matches;
        holds = c.holds;
      });
    }

uncovered_by_right : (q r : List Item) (x : Item) (t : ℤ) → IsUncovered (q ++ r) x t → IsUncovered r x t
uncovered_by_right q r x t a =
    record {
      held = a.held;
      uncovered = λ c. a.uncovered (record {
        by = c.by;
        by_in = Contains-append_right q r c.by c.by_in;
        matches = c.matches;
        holds = c.holds;
      });
    }

-- ---- maximal periods of two sets and of their intersection

module _ (S R B : ℤ → Type 0) (join : (t : ℤ) → S t → R t → B t) (one : (t : ℤ) → B t → S t)
    (other : (t : ℤ) → B t → R t) where
  -- the period that two maximal periods share is a maximal period of the intersection
  maximal_shared : (a b p : Period) → IsMaximal S a → IsMaximal R b → IsShared a b p → IsMaximal B p
  maximal_shared a b p m n shared =
      let proper : p.from <ℤ p.to = p.ordered in
      let first = (shared p.from).0 (first_held p) in
      let last = (shared (p.to -ℤ pos 1)).0 (omega (arith, ints), omega (arith, ints)) in
      let fa : Holds a p.from = first.0 in
      let fb : Holds b p.from = first.1 in
      let la : Holds a (p.to -ℤ pos 1) = last.0 in
      let lb : Holds b (p.to -ℤ pos 1) = last.1 in
      record {
        inside = λ t h. join t (m.inside t ((shared t).0 h).0) (n.inside t ((shared t).0 h).1);
        before = λ u. elim (by_order p.from a.from) [
          | inl h ↦ m.before (
              let e : p.from -ℤ pos 1 ≡ a.from -ℤ pos 1 = omega (arith, ints) in subst S e (one (p.from -ℤ pos 1) u))
          | inr h ↦ elim (by_order p.from b.from) [
            | inl k ↦ n.before (
                let e : p.from -ℤ pos 1 ≡ b.from -ℤ pos 1 = omega (arith, ints) in
                subst R e (other (p.from -ℤ pos 1) u))
            | inr k ↦ (
                let in_p : Holds p (p.from -ℤ pos 1) =
                (shared (p.from -ℤ pos 1)).1
                ((omega (arith, ints), omega (arith, ints)), (omega (arith, ints), omega (arith, ints))) in
                omega (arith, ints))
          ]
        ];
        after = λ u. elim (by_order a.to p.to) [
          | inl h ↦ m.after (let e : p.to ≡ a.to = omega (arith, ints) in subst S e (one p.to u))
          | inr h ↦ elim (by_order b.to p.to) [
            | inl k ↦ n.after (let e : p.to ≡ b.to = omega (arith, ints) in subst R e (other p.to u))
            | inr k ↦ (
                let in_p : Holds p p.to =
                (shared p.to).1
                ((omega (arith, ints), omega (arith, ints)), (omega (arith, ints), omega (arith, ints))) in
                omega (arith, ints))
          ]
        ];
      }

  -- a maximal period of the intersection is within the maximal period of `S` that holds its start
  in_left : (a p : Period) → IsMaximal S a → IsMaximal B p → Holds a p.from → (t : ℤ) → Holds p t → Holds a t
  in_left a p m o fa t h = (
    elim (by_order a.from t) [
      | inl k ↦ k
      | inr k ↦ absurd (let f = h.0 in let g = fa.0 in omega (arith, ints))
    ],
    elim (by_order a.to t) [
      | inr k ↦ k
      | inl k ↦ absurd (m.after (one a.to (o.inside a.to (
          let f = fa.1 in let g = h.1 in (omega (arith, ints), omega (arith, ints))))))
    ],
  )

  in_right : (b p : Period) → IsMaximal R b → IsMaximal B p → Holds b p.from → (t : ℤ) → Holds p t → Holds b t
  in_right b p n o fb t h = (
    elim (by_order b.from t) [
      | inl k ↦ k
      | inr k ↦ absurd (let f = h.0 in let g = fb.0 in omega (arith, ints))
    ],
    elim (by_order b.to t) [
      | inr k ↦ k
      | inl k ↦ absurd (n.after (other b.to (o.inside b.to (
          let f = fb.1 in let g = h.1 in (omega (arith, ints), omega (arith, ints))))))
    ],
  )

  -- the maximal periods of both sets around its start share exactly this period
  shared_maximal : (a b p : Period) → IsMaximal S a → IsMaximal R b → IsMaximal B p → Holds a p.from → Holds b p.from
      → IsShared a b p
  shared_maximal a b p m n o fa fb t =
      let proper : p.from <ℤ p.to = p.ordered in (
        λ h. (in_left a p m o fa t h, in_right b p n o fb t h),
        λ (h, k). (
          elim (by_order p.from t) [
            | inl l ↦ l
            | inr l ↦ absurd (
                let ha = h.0 in let ka = k.0 in let ga = fa.1 in let gb = fb.1 in
                o.before (join (p.from -ℤ pos 1)
                (m.inside (p.from -ℤ pos 1) (omega (arith, ints), omega (arith, ints)))
                (n.inside (p.from -ℤ pos 1) (omega (arith, ints), omega (arith, ints)))))
          ],
          elim (by_order p.to t) [
            | inr l ↦ l
            | inl l ↦ absurd (
                let ha = h.1 in let ka = k.1 in let ga = fa.0 in let gb = fb.0 in
                o.after (join p.to
                (m.inside p.to (omega (arith, ints), omega (arith, ints)))
                (n.inside p.to (omega (arith, ints), omega (arith, ints)))))
          ],
        ),
      )

-- the gap of `x` around an uncovered instant
gap_around : (p q : List Item) (x : Item) (a : List Gap) → ListsGaps p q a → Contains p x → (t : ℤ) → IsUncovered q x t
    → (g : Gap) × Contains a g × Holds g.period t × IsMaximal (IsUncovered q x) g.period × (g.left ≡ x)
gap_around p q x a lists h t f =
    let m = maximal_around (IsUncovered q x) (uncovered_test q x) x.period.from x.period.to (λ u k. k.held.0)
    (λ u k. k.held.1) t f in
    let g : Gap = record { left = x; period = m.0 } in
    (g, (lists.exactly g).1 (record { left_in = h; maximal = m.2 }), m.1, m.2, refl)

pub ListsGaps-append : (p q r : List Item) → IdsTell p → (a b c : List Gap) → ListsGaps p q a → ListsGaps p r b
    → IsListOf GapStartsBefore (IsMeet a b) c → ListsGaps p (q ++ r) c
ListsGaps-append p q r distinct a b c la lb lc =
    IsListOf-same GapStartsBefore (IsMeet a b) (IsGap p (q ++ r)) c to back lc
  where
    to : (g : Gap) → IsMeet a b g → IsGap p (q ++ r) g
    to g m =
        let i = (la.exactly m.first).0 m.first_in in
        let j = (lb.exactly m.second).0 m.second_in in
        let same : m.first.left ≡ m.second.left =
        distinct m.first.left m.second.left i.left_in j.left_in m.same_id in
        let mi : IsMaximal (IsUncovered q g.left) m.first.period =
        subst (λ v. IsMaximal (IsUncovered q v) m.first.period) (sym m.left) i.maximal in
        let mj : IsMaximal (IsUncovered r g.left) m.second.period =
        subst (λ v. IsMaximal (IsUncovered r v) m.second.period) (sym (m.left ∙ same)) j.maximal in
        record {
          left_in = subst (Contains p) (sym m.left) i.left_in;
          maximal = maximal_shared (IsUncovered q g.left) (IsUncovered r g.left) (IsUncovered (q ++ r) g.left)
              (uncovered_by_both q r g.left) (uncovered_by_left q r g.left) (uncovered_by_right q r g.left)
              m.first.period m.second.period g.period mi mj m.shared;
        }

    back : (g : Gap) → IsGap p (q ++ r) g → IsMeet a b g
    back g i =
        let start : IsUncovered (q ++ r) g.left g.period.from = i.maximal.inside g.period.from (first_held g.period) in
        let m = gap_around p q g.left a la i.left_in g.period.from
        (uncovered_by_left q r g.left g.period.from start) in
        let n = gap_around p r g.left b lb i.left_in g.period.from
        (uncovered_by_right q r g.left g.period.from start) in
        record {
          first = m.0;
          second = n.0;
          first_in = m.1;
          second_in = n.1;
          same_id = ap (λ (v : Item). v.id) (m.4 ∙ sym n.4);
          left = sym m.4;
          shared = shared_maximal (IsUncovered q g.left) (IsUncovered r g.left) (IsUncovered (q ++ r) g.left)
              (uncovered_by_both q r g.left) (uncovered_by_left q r g.left) (uncovered_by_right q r g.left)
              (m.0).period (n.0).period g.period m.3 n.3 i.maximal m.2 n.2;
        }
