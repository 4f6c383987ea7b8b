-- The gaps of a part against no right items: each item's whole period.
use Rattle.std.proofs.Common.{◌≡◌, List, [], ◌∷◌, inl, inr, refl, sym, subst, ap, arith}
use Rattle.std.specs.Prelude.{ℤ, pos, ◌-ℤ◌, ◌≤ℤ◌, ◌<ℤ◌, Contains}
use Rattle.std.proofs.lemmas.Int.{ints}
use Rattle.period_core.specs.declared.period.Period.{Period}
use Rattle.period_core.specs.Period.{Holds}
use Rattle.dip_core.specs.declared.item.Item.{Item}
use Rattle.dip_core.specs.Item.{IsChain}
use Rattle.list_core.proofs.RisingLemmas.{Contains-head, Contains-cons, Contains-cons_cases, Contains-none}
use Rattle.list_core.proofs.WantedLemmas.{IsListOf-append, IsListOf-one, IsListOf-none}
use Rattle.merge_core.specs.declared.gap.Gap.{Gap}
use Rattle.merge_core.specs.Gaps.{IsUncovered, IsMaximal, IsGap, GapStartsBefore, ListsGaps}
use Rattle.merge_core.specs.Sweep.{IsGapOf}
use Rattle.merge_core.proofs.SharedLemmas.{Period-by_instants, by_order, first_held}
use Rattle.merge_core.proofs.PartLemmas.{chain_head, IsChain-tail}
use Rattle.merge_core.proofs.SweepLemmas.{Gap-same}

-- Each item with its whole period.
abbrev pub whole_gaps : List Item → List Gap
whole_gaps [] = []
whole_gaps (x ∷ xs) = record { left = x; period = x.period } ∷ whole_gaps xs

uncovered_by_none : (x : Item) (t : ℤ) → Holds x.period t → IsUncovered [] x t
uncovered_by_none x t h = record { held = h; uncovered = λ c. absurd (Contains-none c.by c.by_in) }

whole_only : (x : Item) (p : Period) → IsMaximal (IsUncovered [] x) p → p ≡ x.period
whole_only x p m =
    let first : Holds x.period p.from = (m.inside p.from (first_held p)).held in
    let proper : p.from <ℤ p.to = p.ordered in
    let last : Holds x.period (p.to -ℤ pos 1) =
    (m.inside (p.to -ℤ pos 1) (omega (arith, ints), omega (arith, ints))).held in
    Period-by_instants p x.period
    (λ t h. (m.inside t h).held)
    (λ t h. (
      starts t h (λ k. m.before (uncovered_by_none x (p.from -ℤ pos 1) k)) first,
      stops t h (λ k. m.after (uncovered_by_none x p.to k)) last,
    ))
  where
    starts : (t : ℤ) → Holds x.period t → (Holds x.period (p.from -ℤ pos 1) → ⊥) → Holds x.period p.from → p.from ≤ℤ t
    starts t h out f =
        elim (by_order p.from t) [
          | inl k ↦ k
          | inr k ↦ absurd (let a = h.0 in let b = f.1 in out (omega (arith, ints), omega (arith, ints)))
        ]

    stops : (t : ℤ) → Holds x.period t → (Holds x.period p.to → ⊥) → Holds x.period (p.to -ℤ pos 1) → t <ℤ p.to
    stops t h out f =
        elim (by_order p.to t) [
          | inr k ↦ k
          | inl k ↦ absurd (let a = h.1 in let b = f.0 in out (omega (arith, ints), omega (arith, ints)))
        ]

whole_is : (x : Item) (g : Gap) → g.left ≡ x → g.period ≡ x.period → IsGapOf [] x g
whole_is x g l e =
    record {
      left = l;
      maximal = subst (λ v. IsMaximal (IsUncovered [] x) v) (sym e) (record {
        inside = λ t h. uncovered_by_none x t h;
        before = λ f. (let h = f.held.0 in omega (arith, ints));
        after = λ f. (let h = f.held.1 in omega (arith, ints));
      });
    }

pub gaps_whole : (p : List Item) → IsChain p → ListsGaps p [] (whole_gaps p)
gaps_whole [] part = IsListOf-none GapStartsBefore (IsGap [] []) (λ g i. Contains-none g.left i.left_in)
gaps_whole (x ∷ p) part =
    let g : Gap = record { left = x; period = x.period } in
    IsListOf-append GapStartsBefore (IsGapOf [] x) (IsGap p []) (IsGap (x ∷ p) []) (g ∷ []) (whole_gaps p)
    (IsListOf-one GapStartsBefore (IsGapOf [] x) g (whole_is x g refl refl)
    (λ k i. Gap-same g k (sym i.left) (sym (whole_only x k.period i.maximal))))
    (gaps_whole p (IsChain-tail x p part))
    (λ a b i j.
    let e : a.period ≡ x.period = whole_only x a.period i.maximal in
    let f : b.period ≡ b.left.period = whole_only b.left b.period j.maximal in
    let after : x.period.to ≤ℤ b.left.period.from = chain_head x p part b.left j.left_in in
    let xp : x.period.from <ℤ x.period.to = x.period.ordered in
    let ea : a.period.from ≡ x.period.from = ap (λ (v : Period). v.from) e in
    let fb : b.period.from ≡ b.left.period.from = ap (λ (v : Period). v.from) f in
    omega (arith, ints))
    (λ a i. record {
      left_in = subst (Contains (x ∷ p)) (sym i.left) (Contains-head x p);
      maximal = subst (λ v. IsMaximal (IsUncovered [] v) a.period) (sym i.left) i.maximal;
    })
    (λ a j. record { left_in = Contains-cons x p a.left j.left_in; maximal = j.maximal })
    (λ a j.
    elim (Contains-cons_cases x p a.left j.left_in) [
      | inl e ↦ inl (record {
        left = sym e;
        maximal = subst (λ v. IsMaximal (IsUncovered [] v) a.period) (sym e) j.maximal;
      })
      | inr k ↦ inr (record { left_in = k; maximal = j.maximal })
    ])
