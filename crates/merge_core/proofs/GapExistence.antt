-- Two parts have exactly one list of gaps.
use Rattle.std.proofs.Common.{◌≡◌, List, [], ◌∷◌, ◌++◌, inl, inr, refl, sym, subst, arith}
use Rattle.std.specs.Prelude.{ℤ, ◌≤ℤ◌, ◌<ℤ◌, Contains}
use Rattle.std.proofs.lemmas.Int.{ints}
use Rattle.std.proofs.lemmas.Bool.{cases_eq}
use Rattle.std.proofs.Props.{props}
use Rattle.std.proofs.Math.Logic.{∥∥₁_elim}
use Rattle.dip_core.specs.declared.item.Item.{Item}
use Rattle.dip_core.specs.Item.{IsChain}
use Rattle.list_core.specs.Wanted.{IsListOf}
use Rattle.list_core.proofs.RisingLemmas.{Contains-cons_cases, Contains-none, IsListOf-unique}
use Rattle.list_core.proofs.WantedLemmas.{IsListOf-none}
use Rattle.merge_core.specs.declared.gap.Gap.{Gap}
use Rattle.merge_core.specs.Gaps.{IsGap, GapStartsBefore, ListsGaps}
use Rattle.merge_core.specs.Sweep.{IsBetween, ListsGapsFrom}
use Rattle.merge_core.proofs.SharedLemmas.{by_order}
use Rattle.merge_core.proofs.PartLemmas.{chain_head, IsChain-tail}
use Rattle.merge_core.proofs.SweepLemmas.{between_one, between_none, unmatched, matched, clear, gaps_of_whole}
use Rattle.merge_core.proofs.GapLemmas.{nothing_passed, gaps_step}

some_between : (x : Item) (start end : ℤ) → (gaps : List Gap) × IsListOf GapStartsBefore (IsBetween x start end) gaps
some_between x start end =
    elim (by_order end start) [
      | inl h ↦ ([], between_none x start end h)
      | inr h ↦ (
          let g : Gap = record { left = x; period = record { from = start; to = end; ordered = h } } in
          (g ∷ [], between_one x start end g (record { left = refl; from = refl; to = refl })))
    ]

-- the later of two instants
later_of : (a b : ℤ) → (z : ℤ) × (a ≤ℤ z) × (b ≤ℤ z) × ((t : ℤ) → a ≤ℤ t → b ≤ℤ t → z ≤ℤ t)
later_of a b =
    elim (by_order a b) [
      | inl h ↦ (b, h, omega (arith, ints), λ t f g. g)
      | inr h ↦ (a, omega (arith, ints), omega (arith, ints), λ t f g. f)
    ]

none_earlier : (x y : Item) (q : List Item) → IsChain (y ∷ q) → x.period.to ≤ℤ y.period.from → (z : Item)
    → Contains (y ∷ q) z → x.period.to ≤ℤ z.period.from
none_earlier x y q part h z member =
    elim (Contains-cons_cases y q z member) [
      | inl e ↦ subst (λ (v : Item). x.period.to ≤ℤ v.period.from) e h
      | inr k ↦ (
          let after : y.period.to ≤ℤ z.period.from = chain_head y q part z k in
          let proper : y.period.from <ℤ y.period.to = y.period.ordered in
          omega (arith, ints))
    ]

some_gaps_from : (q : List Item) (x : Item) (at : ℤ) → IsChain q → (gaps : List Gap) × ListsGapsFrom q x at gaps
some_gaps_from [] x at part =
    let b = some_between x at x.period.to in
    (b.0, clear x [] at (λ z h. absurd (Contains-none z h)) b.0 b.1)
some_gaps_from (y ∷ q) x at part =
    elim (by_order x.period.to y.period.from) [
      | inl h ↦ (
          let b = some_between x at x.period.to in
          (b.0, clear x (y ∷ q) at (none_earlier x y q part h) b.0 b.1))
      | inr early ↦ elim (cases_eq y.class x.class) [
        | inl same ↦ (
            let next = later_of at y.period.to in
            let now = some_between x at y.period.from in
            let rest = some_gaps_from q x next.0 (IsChain-tail y q part) in (
              now.0 ++ rest.0,
              matched x y q at next.0 same part early next.1 next.2 next.3 now.0 rest.0 now.1 rest.1,
            ))
        | inr other ↦ (
            let rest = some_gaps_from q x at (IsChain-tail y q part) in
            (rest.0, unmatched x y q at other rest.0 rest.1))
      ]
    ]

pub some_gaps : (p q : List Item) → IsChain p → IsChain q → (gaps : List Gap) × ListsGaps p q gaps
some_gaps [] q rp rq = ([], IsListOf-none GapStartsBefore (IsGap [] q) (λ g i. Contains-none g.left i.left_in))
some_gaps (x ∷ p) q rp rq =
    let now = some_gaps_from q x x.period.from rq in
    let rest = some_gaps p q (IsChain-tail x p rp) rq in (
      now.0 ++ rest.0,
      gaps_step x p q q 0 rp (nothing_passed x q) now.0 rest.0 (gaps_of_whole x q now.0 now.1) rest.1,
    )

pub one_list_of_gaps : (p q : List Item) (one other : List Gap) → ListsGaps p q one → ListsGaps p q other → one ≡ other
one_list_of_gaps p q one other a b =
    IsListOf-unique GapStartsBefore (IsGap p q) one other (λ g h before after. omega (arith, ints)) a b

Gaps-set : IsSet (List Gap)
Gaps-set = hlevel props

-- so the truncated fact that a list is theirs gives the whole fact
pub ListsGaps-opened : (p q : List Item) (gaps : List Gap) → IsChain p → IsChain q → ∥ ListsGaps p q gaps ∥₁
    → ListsGaps p q gaps
ListsGaps-opened p q gaps rp rq bare =
    let known = some_gaps p q rp rq in
    let same : gaps ≡ known.0 =
    ∥∥₁_elim bare (Gaps-set gaps known.0) (λ v. one_list_of_gaps p q gaps known.0 v known.1) in
    subst (λ (l : List Gap). ListsGaps p q l) (sym same) known.1
