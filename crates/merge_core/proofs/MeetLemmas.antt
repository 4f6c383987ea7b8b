-- Gaps don't overlap, and a merge finds what two lists of them share.
use Rattle.std.proofs.Common.{◌≡◌, ◌⊎◌, List, [], ◌∷◌, ◌++◌, drop, map, inl, inr, refl, sym, subst, ap, ◌∙◌, arith}
use Rattle.std.specs.Prelude.{pos, ◌-ℤ◌, ◌≤ℤ◌, ◌<ℤ◌, Contains}
use Rattle.std.proofs.lemmas.Int.{ints}
use Rattle.period_core.specs.declared.period.Period.{Period}
use Rattle.dip_core.specs.declared.item.Item.{Item}
use Rattle.dip_core.specs.Item.{IsChain}
use Rattle.list_core.specs.Wanted.{IsListOf, AddsAll}
use Rattle.list_core.proofs.RisingLemmas.{Contains-head}
use Rattle.list_core.proofs.WantedLemmas.{IsListOf-same, IsListOf-one, AllPairs-cases, AllPairs-other}
use Rattle.merge_core.specs.declared.gap.Gap.{Gap}
use Rattle.merge_core.specs.Hits.{IsShared}
use Rattle.merge_core.specs.Gaps.{IsUncovered, IsGap, GapStartsBefore, ListsGaps}
use Rattle.merge_core.specs.Meets.{IsMeet, AreGapsApart}
use Rattle.merge_core.proofs.SharedLemmas.{by_order, shared_ends, shared_once}
use Rattle.merge_core.proofs.PartLemmas.{AllPairs-from_chain}
use Rattle.merge_core.proofs.SweepLemmas.{Gap-same}
use Rattle.merge_core.proofs.GapLemmas.{maximal_within}
use Rattle.merge_core.proofs.WholeLemmas.{whole_gaps, gaps_whole}
use Rattle.merge_core.proofs.MergeLemmas.{Contains-only, IsMade, IsMerging, merging_start, merging_left, merging_right, merging_end}

-- the gaps of the left items don't overlap
AreGapsApart-from_lists : (p q : List Item) (gaps : List Gap) → IsChain p → ListsGaps p q gaps → AreGapsApart gaps
AreGapsApart-from_lists p q gaps part lists =
    AllPairs-other GapStartsBefore (λ (a b : Gap). a.period.to ≤ℤ b.period.from) gaps lists.ordered apart
  where
    apart : (g k : Gap) → Contains gaps g → Contains gaps k → GapStartsBefore g k → g.period.to ≤ℤ k.period.from
    apart g k hg hk before =
        let i = (lists.exactly g).0 hg in
        let j = (lists.exactly k).0 hk in
        let gp : g.period.from <ℤ g.period.to = g.period.ordered in
        let kp : k.period.from <ℤ k.period.to = k.period.ordered in
        let eg = maximal_within q g.left g.period i.maximal in
        let ek = maximal_within q k.left k.period j.maximal in
        elim (AllPairs-cases (λ (x y : Item). x.period.to ≤ℤ y.period.from) p g.left k.left (AllPairs-from_chain p part)
        i.left_in j.left_in) [
          | inl e ↦ elim (by_order g.period.to k.period.from) [
            | inl h ↦ h
            | inr h ↦ absurd (j.maximal.before (subst (λ v. IsUncovered q v (k.period.from -ℤ pos 1)) e
                (i.maximal.inside (k.period.from -ℤ pos 1) (omega (arith, ints), omega (arith, ints)))))
          ]
          | inr c ↦ elim c [
            | inl h ↦ (let after : g.left.period.to ≤ℤ k.left.period.from = h in omega (arith, ints, eg.1, ek.0))
            | inr h ↦ (let after : k.left.period.to ≤ℤ g.left.period.from = h in omega (arith, ints, eg.0, ek.1))
          ]
        ]

-- All periods that gaps of two lists share.
abbrev pub ListsMeets : List Gap → List Gap → List Gap → Type 0
ListsMeets a b gaps = IsListOf GapStartsBefore (IsMeet a b) gaps

-- the periods that two lists of disjoint gaps share are disjoint
pub AreGapsApart-meets : (a b gaps : List Gap) → AreGapsApart a → AreGapsApart b → ListsMeets a b gaps
    → AreGapsApart gaps
AreGapsApart-meets a b gaps ra rb lists =
    AllPairs-other GapStartsBefore (λ (x y : Gap). x.period.to ≤ℤ y.period.from) gaps lists.ordered apart
  where
    same_start : (g k : Gap) (i : IsMeet a b g) (j : IsMeet a b k) → i.first ≡ j.first → i.second ≡ j.second
        → g.period.from ≡ k.period.from
    same_start g k i j e f =
        let s : IsShared i.first.period i.second.period k.period =
        subst (λ (v : Gap). IsShared v.period i.second.period k.period) (sym e)
        (subst (λ (v : Gap). IsShared j.first.period v.period k.period) (sym f) j.shared) in
        ap (λ (v : Period). v.from) (shared_once i.first.period i.second.period g.period k.period i.shared s)

    apart : (g k : Gap) → Contains gaps g → Contains gaps k → GapStartsBefore g k → g.period.to ≤ℤ k.period.from
    apart g k hg hk before =
        let i = (lists.exactly g).0 hg in
        let j = (lists.exactly k).0 hk in
        let gp : g.period.from <ℤ g.period.to = g.period.ordered in
        let kp : k.period.from <ℤ k.period.to = k.period.ordered in
        let eg = shared_ends i.first.period i.second.period g.period i.shared in
        let ek = shared_ends j.first.period j.second.period k.period j.shared in
        elim (AllPairs-cases (λ (x y : Gap). x.period.to ≤ℤ y.period.from) a i.first j.first ra
        i.first_in j.first_in) [
          | inl e ↦
              elim (AllPairs-cases (λ (x y : Gap). x.period.to ≤ℤ y.period.from) b i.second j.second rb
              i.second_in j.second_in) [
                | inl f ↦ absurd (
                    let starts : g.period.from ≡ k.period.from = same_start g k i j e f in
                    omega (arith, ints))
                | inr c ↦ elim c [
                  | inl h ↦ (
                      let after : i.second.period.to ≤ℤ j.second.period.from = h in omega (arith, ints, eg.3, ek.1))
                  | inr h ↦ (
                      let after : j.second.period.to ≤ℤ i.second.period.from = h in omega (arith, ints, eg.1, ek.3))
                ]
              ]
          | inr c ↦ elim c [
            | inl h ↦ (let after : i.first.period.to ≤ℤ j.first.period.from = h in omega (arith, ints, eg.2, ek.0))
            | inr h ↦ (let after : j.first.period.to ≤ℤ i.first.period.from = h in omega (arith, ints, eg.0, ek.2))
          ]
        ]

-- ---- the merge of two lists of gaps

-- The period that two gaps of one left id share.
abbrev pub IsMeetOf : Gap → Gap → Gap → Type 0
IsMeetOf x y gap = IsMeet (x ∷ []) (y ∷ []) gap

abbrev gap_period : Gap → Period
gap_period g = g.period

-- The merge of two lists of gaps.
abbrev pub IsMeeting : (A B a b now : List Gap) → Type 0
IsMeeting A B a b now = IsMerging gap_period gap_period gap_period IsMeetOf A B a b [] now

meet_shares : (x y g : Gap) → IsMeetOf x y g → IsShared x.period y.period g.period
meet_shares x y g i =
    subst (λ (v : Gap). IsShared x.period v.period g.period) (sym (Contains-only y i.second i.second_in))
    (subst (λ (u : Gap). IsShared u.period i.second.period g.period) (sym (Contains-only x i.first i.first_in))
    i.shared)

meet_from_made : (a b : List Gap) (g : Gap) → IsMade IsMeetOf a b g → IsMeet a b g
meet_from_made a b g m =
    record {
      first = m.made.first;
      second = m.made.second;
      first_in = subst (Contains a) (Contains-only m.x m.made.first m.made.first_in) m.x_in;
      second_in = subst (Contains b) (Contains-only m.y m.made.second m.made.second_in) m.y_in;
      same_id = m.made.same_id;
      left = m.made.left;
      shared = m.made.shared;
    }

made_from_meet : (a b : List Gap) (g : Gap) → IsMeet a b g → IsMade IsMeetOf a b g
made_from_meet a b g m =
    record {
      x = m.first;
      y = m.second;
      x_in = m.first_in;
      y_in = m.second_in;
      made = record {
        first = m.first;
        second = m.second;
        first_in = Contains-head m.first [];
        second_in = Contains-head m.second [];
        same_id = m.same_id;
        left = m.left;
        shared = m.shared;
      };
    }

-- two gaps share at most one period
pub meet_alone : (x y g : Gap) → IsMeetOf x y g → IsListOf GapStartsBefore (IsMeetOf x y) (g ∷ [])
meet_alone x y g i =
    IsListOf-one GapStartsBefore (IsMeetOf x y) g i
    (λ k j.
    let lefts : g.left ≡ k.left =
    i.left ∙ sym (ap (λ (v : Gap). v.left) (Contains-only x i.first i.first_in))
    ∙ ap (λ (v : Gap). v.left) (Contains-only x j.first j.first_in) ∙ sym j.left in
    Gap-same g k lefts (shared_once x.period y.period g.period k.period (meet_shares x y g i) (meet_shares x y k j)))

pub meeting_start : (A B : List Gap) → AreGapsApart A → AreGapsApart B → IsMeeting A B A B []
meeting_start A B left right = merging_start gap_period gap_period gap_period IsMeetOf meet_shares A B [] left right

pub meeting_left : (A B : List Gap) (x : Gap) (a : List Gap) (y : Gap) (b mid now : List Gap) → a ≡ x ∷ drop 1 a
    → b ≡ y ∷ drop 1 b → x.period.to ≤ℤ y.period.to → AddsAll GapStartsBefore (IsMeetOf x y) mid now
    → IsMeeting A B a b mid → IsMeeting A B (drop 1 a) b now
meeting_left A B x a y b mid now e f first n m =
    merging_left gap_period gap_period gap_period IsMeetOf meet_shares A B x a y b [] mid now e f first n m

pub meeting_right : (A B : List Gap) (x : Gap) (a : List Gap) (y : Gap) (b mid now : List Gap) → a ≡ x ∷ drop 1 a
    → b ≡ y ∷ drop 1 b → y.period.to ≤ℤ x.period.to → AddsAll GapStartsBefore (IsMeetOf x y) mid now
    → IsMeeting A B a b mid → IsMeeting A B a (drop 1 b) now
meeting_right A B x a y b mid now e f first n m =
    merging_right gap_period gap_period gap_period IsMeetOf meet_shares A B x a y b [] mid now e f first n m

pub meeting_end : (A B a b now : List Gap) → (a ≡ []) ⊎ (b ≡ []) → IsMeeting A B a b now → ListsMeets A B now
meeting_end A B a b now over m =
    let all = merging_end gap_period gap_period gap_period IsMeetOf meet_shares A B a b [] now over m in
    subst (ListsMeets A B) (sym all.split)
    (IsListOf-same GapStartsBefore (IsMade IsMeetOf A B) (IsMeet A B) all.added
    (meet_from_made A B) (made_from_meet A B) all.all)

-- ---- gaps in a new list

-- the gaps that were added to an empty list
pub ListsGaps-added : (p q : List Item) (old new : List Gap) → old ≡ []
    → AddsAll GapStartsBefore (IsGap p q) old new → ListsGaps p q new
ListsGaps-added p q old new e a = subst (ListsGaps p q) (sym (a.split ∙ ap (λ z. z ++ a.added) e)) a.all

pub AreGapsApart-added : (p q : List Item) (old new : List Gap) → IsChain p → old ≡ []
    → AddsAll GapStartsBefore (IsGap p q) old new → AreGapsApart new
AreGapsApart-added p q old new part e a = AreGapsApart-from_lists p q new part (ListsGaps-added p q old new e a)

whole_gaps-map : (p : List Item) → map (λ (x : Item). record { left = x; period = x.period }) p ≡ whole_gaps p
whole_gaps-map [] = refl
whole_gaps-map (x ∷ p) = ap (λ z. record { left = x; period = x.period } ∷ z) (whole_gaps-map p)

pub whole_listed : (p : List Item) (gaps : List Gap) → IsChain p
    → gaps ≡ map (λ (x : Item). record { left = x; period = x.period }) p → ListsGaps p [] gaps
whole_listed p gaps part e = subst (ListsGaps p []) (sym (e ∙ whole_gaps-map p)) (gaps_whole p part)

pub whole_apart : (p : List Item) (gaps : List Gap) → IsChain p
    → gaps ≡ map (λ (x : Item). record { left = x; period = x.period }) p → AreGapsApart gaps
whole_apart p gaps part e = AreGapsApart-from_lists p [] gaps part (whole_listed p gaps part e)
