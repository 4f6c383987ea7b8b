-- The gaps of one left item after another.
use Rattle.std.proofs.Common.{◌≡◌, ℕ, ◌+◌, ◌≤◌, List, [], ◌∷◌, ◌++◌, inl, inr, length, drop, refl, sym, subst, ap, ◌∙◌, arith, append_assoc, append-nil}
use Rattle.std.specs.Prelude.{ℤ, pos, ◌-ℤ◌, ◌≤ℤ◌, ◌<ℤ◌, Contains}
use Rattle.std.proofs.lemmas.Int.{ints}
use Rattle.std.proofs.lemmas.List.Elements.{Contains-append_right, Contains-append_cases}
use Rattle.period_core.specs.declared.period.Period.{Period}
use Rattle.period_core.specs.Period.{Holds}
use Rattle.dip_core.specs.declared.item.Item.{Item}
use Rattle.dip_core.specs.Item.{IsChain}
use Rattle.list_core.specs.Wanted.{IsListOf, AddsAll}
use Rattle.list_core.proofs.RisingLemmas.{Contains-head, Contains-cons, Contains-cons_cases, Contains-none}
use Rattle.list_core.proofs.WantedLemmas.{IsListOf-append, IsListOf-none, IsListOf-same}
use Rattle.merge_core.specs.declared.gap.Gap.{Gap}
use Rattle.merge_core.specs.Gaps.{IsUncovered, IsMaximal, IsGap, GapStartsBefore, ListsGaps}
use Rattle.merge_core.specs.Sweep.{IsGapOf, IsBetween, IsGapFrom, ListsGapsFrom, Covers, HasGapBefore, PassesUpto, EndLater, Extends}
use Rattle.merge_core.specs.Advances.{gap_advances_of}
use Rattle.merge_core.proofs.SharedLemmas.{first_held}
use Rattle.merge_core.proofs.PartLemmas.{chain_head}
use Rattle.merge_core.proofs.AdvanceLemmas.{gap_advances_past, gap_advances_end}
use Rattle.merge_core.proofs.SweepLemmas.{clear, clear_gap, gap_of_whole, gaps_of_whole, IsMaximal-same}

-- The state after sweeping `x` up to `at`: the gaps found, with `q` left of the right items `Q`.
pub record IsSwept (x : Item) (Q q : List Item) (at : ℤ) (old now : List Gap) (n : ℕ) : Type 0 where
  pub added : List Gap
  pub split : now ≡ old ++ added
  pub goes_on : (rest : List Gap) → ListsGapsFrom q x at rest → ListsGapsFrom Q x x.period.from (added ++ rest)
  pub passes : PassesUpto x.period.to Q q n
  pub within : (g : Gap) → IsGapFrom q x at g → IsGapFrom Q x x.period.from g

pub nothing_passed : (x : Item) (q : List Item) → PassesUpto x.period.to q q 0
nothing_passed x q =
    record { passed = []; split = refl; over = λ y h. absurd (Contains-none y h); count = omega arith }

-- `y` is passed
swept_past : (x : Item) (Q : List Item) (y : Item) (q : List Item) (at next : ℤ) (old mid now : List Gap) (n : ℕ)
    → IsChain (y ∷ q) → y.period.to ≤ℤ x.period.to → Covers x y at mid now next
    → IsSwept x Q (y ∷ q) at old mid n → IsSwept x Q q next old now (n + 1)
swept_past x Q y q at next old mid now n part over c s =
    record {
      added = s.added ++ c.added;
      split = c.split ∙ ap (λ z. z ++ c.added) s.split ∙ append_assoc old s.added c.added;
      goes_on = λ rest r. rw append_assoc (s.goes_on (c.added ++ rest) (c.goes_on q part rest r));
      passes = record {
        passed = s.passes.passed ++ y ∷ [];
        split = s.passes.split ∙ sym (append_assoc s.passes.passed (y ∷ []) q);
        over = λ z h. elim (Contains-append_cases s.passes.passed (y ∷ []) z h) [
          | inl k ↦ s.passes.over z k
          | inr k ↦ elim (Contains-cons_cases y [] z k) [
            | inl e ↦ subst (λ (v : Item). v.period.to ≤ℤ x.period.to) e over
            | inr none ↦ absurd (Contains-none z none)
          ]
        ];
        count = omega (arith, s.passes.count);
      };
      within = λ g i. s.within g (c.within q part g i);
    }

pub swept_next : (x : Item) (Q : List Item) (y : Item) (q : List Item) (at at' next next' : ℤ) (old mid now : List Gap)
    (n : ℕ) → at' ≡ at → next' ≡ next → q ≡ y ∷ drop 1 q → IsChain q → y.period.to ≤ℤ x.period.to
    → Covers x y at' mid now next'
    → IsSwept x Q q at old mid n → IsSwept x Q (drop 1 q) next old now (n + 1)
swept_next x Q y q at at' next next' old mid now n e f first part over c s =
    swept_past x Q y (drop 1 q) at next old mid now n (subst IsChain first part) over
    (subst (λ z. Covers x y at mid now z) f (subst (λ z. Covers x y z mid now next') e c))
    (subst (λ z. IsSwept x Q z at old mid n) first s)

-- no remaining item starts before the end of `x`
swept_end : (x : Item) (Q q : List Item) (at : ℤ) (old now final : List Gap) (n : ℕ)
    → ((z : Item) → Contains q z → x.period.to ≤ℤ z.period.from) → IsSwept x Q q at old now n
    → AddsAll GapStartsBefore (IsBetween x at x.period.to) now final
    → AddsAll GapStartsBefore (IsGapOf Q x) old final
swept_end x Q q at old now final n out s a =
    record {
      added = s.added ++ a.added;
      split = a.split ∙ ap (λ z. z ++ a.added) s.split ∙ append_assoc old s.added a.added;
      all = gaps_of_whole x Q (s.added ++ a.added) (s.goes_on a.added (clear x q at out a.added a.all));
    }

pub none_left : (x : Item) (q : List Item) → q ≡ [] → (z : Item) → Contains q z → x.period.to ≤ℤ z.period.from
none_left x q e z h = absurd (Contains-none z (subst (λ v. Contains v z) e h))

pub all_later : (x y : Item) (q : List Item) → q ≡ y ∷ drop 1 q → IsChain q → x.period.to ≤ℤ y.period.from
    → (z : Item) → Contains q z → x.period.to ≤ℤ z.period.from
all_later x y q e part late z h =
    elim (Contains-cons_cases y (drop 1 q) z (subst (λ v. Contains v z) e h)) [
      | inl same ↦ subst (λ (v : Item). x.period.to ≤ℤ v.period.from) same late
      | inr k ↦ (
          let after : y.period.to ≤ℤ z.period.from = chain_head y (drop 1 q) (subst IsChain e part) z k in
          let proper : y.period.from <ℤ y.period.to = y.period.ordered in
          omega (arith, ints))
    ]

-- after an item that ends no earlier than `x`, no item starts before the end of `x`
last_later : (x y : Item) (q : List Item) → q ≡ y ∷ drop 1 q → IsChain q → x.period.to ≤ℤ y.period.to
    → (z : Item) → Contains (drop 1 q) z → x.period.to ≤ℤ z.period.from
last_later x y q e part beyond z h =
    let after : y.period.to ≤ℤ z.period.from = chain_head y (drop 1 q) (subst IsChain e part) z h in
    omega (arith, ints)

-- an item that starts no earlier than `end` ends later
pub start_later : (end : ℤ) (q : List Item) → ((z : Item) → Contains q z → end ≤ℤ z.period.from) → EndLater end q
start_later end q out z h =
    let late : end ≤ℤ z.period.from = out z h in
    let proper : z.period.from <ℤ z.period.to = z.period.ordered in
    omega (arith, ints)

-- if `y` ends after `x`, so does every item after `y`
pub last_ends_later : (x y : Item) (q : List Item) → q ≡ y ∷ drop 1 q → IsChain q → x.period.to <ℤ y.period.to
    → EndLater x.period.to q
last_ends_later x y q e part beyond z h =
    elim (Contains-cons_cases y (drop 1 q) z (subst (λ v. Contains v z) e h)) [
      | inl same ↦ subst (λ (v : Item). x.period.to <ℤ v.period.to) same beyond
      | inr k ↦ (
          let upto : x.period.to ≤ℤ y.period.to = omega (arith, ints, beyond) in
          start_later x.period.to (drop 1 q) (last_later x y q e part upto) z k)
    ]

-- `y` ends no earlier than `x`, and isn't passed
swept_last : (x : Item) (Q : List Item) (y : Item) (q : List Item) (at next : ℤ) (old mid now final : List Gap) (n : ℕ)
    → q ≡ y ∷ drop 1 q → IsChain q → x.period.to ≤ℤ y.period.to → Covers x y at mid now next
    → IsSwept x Q q at old mid n → AddsAll GapStartsBefore (IsBetween x next x.period.to) now final
    → AddsAll GapStartsBefore (IsGapOf Q x) old final
swept_last x Q y q at next old mid now final n e part beyond c s a =
    let chain : IsChain (y ∷ drop 1 q) = subst IsChain e part in
    let later : ListsGapsFrom (drop 1 q) x next a.added =
    clear x (drop 1 q) next (last_later x y q e part beyond) a.added a.all in
    let lists : ListsGapsFrom q x at (c.added ++ a.added) =
    subst (λ z. ListsGapsFrom z x at (c.added ++ a.added)) (sym e) (c.goes_on (drop 1 q) chain a.added later) in
    record {
      added = s.added ++ (c.added ++ a.added);
      split = a.split ∙ ap (λ z. z ++ a.added) (c.split ∙ ap (λ z. z ++ c.added) s.split)
          ∙ append_assoc (old ++ s.added) c.added a.added ∙ append_assoc old s.added (c.added ++ a.added);
      all = gaps_of_whole x Q (s.added ++ (c.added ++ a.added)) (s.goes_on (c.added ++ a.added) lists);
    }

pub Extends-more : (old mid now more : List Gap) → now ≡ mid ++ more → Extends old mid → Extends old now
Extends-more old mid now more e s =
    record { more = s.more ++ more; split = e ∙ ap (λ z. z ++ more) s.split ∙ append_assoc old s.more more }

pub Extends-swept : (x : Item) (Q q : List Item) (at : ℤ) (old now : List Gap) (n : ℕ)
    → IsSwept x Q q at old now n → Extends old now
Extends-swept x Q q at old now n s = record { more = s.added; split = s.split }

-- Only the gap of `x` from `at` to its end is still missing.
pub record IsStopped (x : Item) (Q : List Item) (at : ℤ) (old now : List Gap) : Type 0 where
  pub keeps : Extends old now
  pub gap : (g : Gap) → IsBetween x at x.period.to g → IsGapOf Q x g
  pub goes_on : (final : List Gap) → AddsAll GapStartsBefore (IsBetween x at x.period.to) now final
      → AddsAll GapStartsBefore (IsGapOf Q x) old final

pub stop_end : (x : Item) (Q q : List Item) (at : ℤ) (old now : List Gap) (n : ℕ)
    → ((z : Item) → Contains q z → x.period.to ≤ℤ z.period.from) → IsSwept x Q q at old now n
    → IsStopped x Q at old now
stop_end x Q q at old now n out s =
    record {
      keeps = Extends-swept x Q q at old now n s;
      gap = λ g b. gap_of_whole x Q g (s.within g (clear_gap x q at out g b));
      goes_on = λ final a. swept_end x Q q at old now final n out s a;
    }

pub stop_last : (x : Item) (Q : List Item) (y : Item) (q : List Item) (at at' next next' : ℤ) (old mid now : List Gap)
    (n : ℕ) → at' ≡ at → next' ≡ next → q ≡ y ∷ drop 1 q → IsChain q → x.period.to ≤ℤ y.period.to
    → Covers x y at' mid now next' → IsSwept x Q q at old mid n → IsStopped x Q next old now
stop_last x Q y q at at' next next' old mid now n same same_next e part beyond c s =
    let d : Covers x y at mid now next =
    subst (λ z. Covers x y at mid now z) same_next (subst (λ z. Covers x y z mid now next') same c) in
    record {
      keeps = Extends-more old mid now d.added d.split (Extends-swept x Q q at old mid n s);
      gap = λ g b.
          let i : IsGapFrom (drop 1 q) x next g =
          clear_gap x (drop 1 q) next (last_later x y q e part beyond) g b in
          let whole : IsGapFrom q x at g =
          subst (λ z. IsGapFrom z x at g) (sym e) (d.within (drop 1 q) (subst IsChain e part) g i) in
          gap_of_whole x Q g (s.within g whole);
      goes_on = λ final a. swept_last x Q y q at next old mid now final n e part beyond d s a;
    }

pub stopped_final : (x : Item) (Q : List Item) (at at' to' : ℤ) (old now final : List Gap) → at' ≡ at
    → to' ≡ x.period.to → IsStopped x Q at old now → AddsAll GapStartsBefore (IsBetween x at' to') now final
    → AddsAll GapStartsBefore (IsGapOf Q x) old final
stopped_final x Q at at' to' old now final e f s a =
    s.goes_on final
    (subst (λ z. AddsAll GapStartsBefore (IsBetween x at z) now final) f
    (subst (λ z. AddsAll GapStartsBefore (IsBetween x z to') now final) e a))

-- the gap before the next item is a gap of `x`
pub swept_gap : (x : Item) (Q : List Item) (y : Item) (q : List Item) (at at' : ℤ) (old now : List Gap) (n : ℕ)
    → at' ≡ at → q ≡ y ∷ drop 1 q → IsChain q → (h : HasGapBefore x y at') → IsSwept x Q q at old now n
    → IsGapOf Q x h.gap
swept_gap x Q y q at at' old now n same e part h s =
    let here : IsGapFrom (y ∷ drop 1 q) x at h.gap =
    subst (λ z. IsGapFrom (y ∷ drop 1 q) x z h.gap) same (h.is (drop 1 q) (subst IsChain e part)) in
    gap_of_whole x Q h.gap (s.within h.gap (subst (λ z. IsGapFrom z x at h.gap) (sym e) here))

pub stopped_gap : (x : Item) (Q : List Item) (at at' to' : ℤ) (old now : List Gap) → at' ≡ at → to' ≡ x.period.to
    → IsStopped x Q at old now → (g : Gap) → IsBetween x at' to' g → IsGapOf Q x g
stopped_gap x Q at at' to' old now e f s g b =
    s.gap g (subst (λ z. IsBetween x at z g) f (subst (λ z. IsBetween x z to' g) e b))

-- ---- the gaps of all left items

-- a gap is within its item's period
pub maximal_within : (q : List Item) (x : Item) (p : Period) → IsMaximal (IsUncovered q x) p
    → (x.period.from ≤ℤ p.from) × (p.to ≤ℤ x.period.to)
maximal_within q x p m =
    let proper : p.from <ℤ p.to = p.ordered in
    let first : Holds x.period p.from = (m.inside p.from (first_held p)).held in
    let last : Holds x.period (p.to -ℤ pos 1) =
    (m.inside (p.to -ℤ pos 1) (omega (arith, ints), omega (arith, ints))).held in
    (first.0, omega (arith, ints))

-- items that end before `z` starts cover nothing of it
module _ (end : ℤ) (z : Item) (q q' : List Item) (n : ℕ) (w : PassesUpto end q q' n)
    (after : end ≤ℤ z.period.from) where
  uncovered_to : (t : ℤ) → IsUncovered q z t → IsUncovered q' z t
  uncovered_to t f = record {
    held = f.held;
    uncovered = λ c. f.uncovered (record {
      by = c.by;
      by_in = subst (λ v. Contains v c.by) (sym w.split) (Contains-append_right w.passed q' c.by c.by_in);
      matches = c.matches;
      holds = c.holds;
    });
  }

  uncovered_back : (t : ℤ) → IsUncovered q' z t → IsUncovered q z t
  uncovered_back t f = record {
    held = f.held;
    uncovered = λ c.
        elim (Contains-append_cases w.passed q' c.by (subst (λ v. Contains v c.by) w.split c.by_in)) [
          | inl k ↦ (
              let over : c.by.period.to ≤ℤ end = w.over c.by k in
              let held = c.holds in
              let in_z = f.held in omega (arith, ints))
          | inr k ↦ f.uncovered (record { by = c.by; by_in = k; matches = c.matches; holds = c.holds })
        ];
  }

  passed_away : (p : Period) → IsMaximal (IsUncovered q z) p → IsMaximal (IsUncovered q' z) p
  passed_away p m = IsMaximal-same (IsUncovered q z) (IsUncovered q' z) p uncovered_to uncovered_back m

  not_passed : (p : Period) → IsMaximal (IsUncovered q' z) p → IsMaximal (IsUncovered q z) p
  not_passed p m = IsMaximal-same (IsUncovered q' z) (IsUncovered q z) p uncovered_back uncovered_to m

-- a gap of `x` against the items that haven't ended by its start is a gap against all items
pub unended_gap : (x : Item) (q q' : List Item) (n : ℕ) → PassesUpto x.period.from q q' n → (g : Gap)
    → IsGapOf q' x g → IsGapOf q x g
unended_gap x q q' n w g i = record {
  left = i.left;
  maximal = not_passed x.period.from x q q' n w (omega (arith, ints)) g.period i.maximal;
}

-- and vice versa
pub unended_gaps : (x : Item) (q q' : List Item) (n : ℕ) (old now : List Gap) → PassesUpto x.period.from q q' n
    → AddsAll GapStartsBefore (IsGapOf q' x) old now → AddsAll GapStartsBefore (IsGapOf q x) old now
unended_gaps x q q' n old now w a = record {
  added = a.added;
  split = a.split;
  all = IsListOf-same GapStartsBefore (IsGapOf q' x) (IsGapOf q x) a.added (unended_gap x q q' n w)
      (λ g i. record {
        left = i.left;
        maximal = passed_away x.period.from x q q' n w (omega (arith, ints)) g.period i.maximal;
      })
      a.all;
}

-- the items that have ended by the start of `x` are passed, and then more
pub passed_both : (x : Item) (q mid q' : List Item) (n m : ℕ) → PassesUpto x.period.from q mid n
    → PassesUpto x.period.to mid q' m → PassesUpto x.period.to q q' (n + m)
passed_both x q mid q' n m one other = record {
  passed = one.passed ++ other.passed;
  split = one.split ∙ ap (λ z. one.passed ++ z) other.split ∙ sym (append_assoc one.passed other.passed q');
  over = λ y h. elim (Contains-append_cases one.passed other.passed y h) [
    | inl k ↦ (
        let ended : y.period.to ≤ℤ x.period.from = one.over y k in
        let proper : x.period.from <ℤ x.period.to = x.period.ordered in
        omega (arith, ints))
    | inr k ↦ other.over y k
  ];
  count = omega (arith, one.count, other.count);
}

-- a gap of a later left item against the remaining right items is a gap of the parts
later_gap : (x : Item) (p q q' : List Item) (n : ℕ) → IsChain (x ∷ p) → PassesUpto x.period.to q q' n → (g : Gap)
    → IsGap p q' g → IsGap (x ∷ p) q g
later_gap x p q q' n part w g i =
    record {
      left_in = Contains-cons x p g.left i.left_in;
      maximal = not_passed x.period.to g.left q q' n w (chain_head x p part g.left i.left_in) g.period i.maximal;
    }

-- the gaps of `x`, and then the gaps of the later items
pub gaps_step : (x : Item) (p q q' : List Item) (n : ℕ) → IsChain (x ∷ p) → PassesUpto x.period.to q q' n
    → (now rest : List Gap) → IsListOf GapStartsBefore (IsGapOf q x) now → ListsGaps p q' rest
    → ListsGaps (x ∷ p) q (now ++ rest)
gaps_step x p q q' n part w now rest a b =
    IsListOf-append GapStartsBefore (IsGapOf q x) (IsGap p q') (IsGap (x ∷ p) q) now rest a b
    (λ g k m i.
    let e = maximal_within q x g.period m.maximal in
    let f = maximal_within q' k.left k.period i.maximal in
    let after : x.period.to ≤ℤ k.left.period.from = chain_head x p part k.left i.left_in in
    let proper : g.period.from <ℤ g.period.to = g.period.ordered in
    omega (arith, ints, e.1, f.0))
    (λ g m. record {
      left_in = subst (Contains (x ∷ p)) (sym m.left) (Contains-head x p);
      maximal = subst (λ v. IsMaximal (IsUncovered q v) g.period) (sym m.left) m.maximal;
    })
    (later_gap x p q q' n part w)
    (λ g i.
    elim (Contains-cons_cases x p g.left i.left_in) [
      | inl e ↦ inl (record {
        left = sym e;
        maximal = subst (λ v. IsMaximal (IsUncovered q v) g.period) (sym e) i.maximal;
      })
      | inr k ↦ inr (record {
        left_in = k;
        maximal = passed_away x.period.to g.left q q' n w (chain_head x p part g.left k) g.period i.maximal;
      })
    ])

-- The state after `n` advances: the gaps of `P` found, with `p` and `q` left.
pub record IsGapped (P Q p q : List Item) (old now : List Gap) (n : ℕ) : Type 0 where
  pub added : List Gap
  pub split : now ≡ old ++ added
  pub goes_on : (rest : List Gap) → ListsGaps p q rest → ListsGaps P Q (added ++ rest)
  pub count : n + (length p + length q) ≡ length P + length Q
  pub at_least : length P ≤ n + length p
  pub within : (g : Gap) → IsGap p q g → IsGap P Q g
  pub exact : n + gap_advances_of p q ≡ gap_advances_of P Q

gapped_past : (P Q : List Item) (x : Item) (p q q' : List Item) (old mid now : List Gap) (n m : ℕ)
    → IsChain (x ∷ p) → AddsAll GapStartsBefore (IsGapOf q x) mid now → PassesUpto x.period.to q q' m
    → EndLater x.period.to q' → IsGapped P Q (x ∷ p) q old mid n → IsGapped P Q p q' old now (n + m + 1)
gapped_past P Q x p q q' old mid now n m part a w later g =
    record {
      added = g.added ++ a.added;
      split = a.split ∙ ap (λ z. z ++ a.added) g.split ∙ append_assoc old g.added a.added;
      goes_on = λ rest r.
          rw append_assoc (g.goes_on (a.added ++ rest) (gaps_step x p q q' m part w a.added rest a.all r));
      count = omega (arith, g.count, w.count);
      at_least = omega (arith, g.at_least);
      within = λ h i. g.within h (later_gap x p q q' m part w h i);
      exact = omega (arith, g.exact, gap_advances_past x p q q' m w later);
    }

pub gapped_more : (P Q : List Item) (x : Item) (p q q' : List Item) (old mid now : List Gap) (n m : ℕ)
    → p ≡ x ∷ drop 1 p → IsChain p → AddsAll GapStartsBefore (IsGapOf q x) mid now → PassesUpto x.period.to q q' m
    → EndLater x.period.to q' → IsGapped P Q p q old mid n → IsGapped P Q (drop 1 p) q' old now (n + m + 1)
gapped_more P Q x p q q' old mid now n m e part a w later g =
    gapped_past P Q x (drop 1 p) q q' old mid now n m (subst IsChain e part) a w later
    (subst (λ z. IsGapped P Q z q old mid n) e g)

-- a gap of the next left item is a gap of the parts
pub gapped_gap : (P Q : List Item) (x : Item) (p q : List Item) (old now : List Gap) (n : ℕ) → p ≡ x ∷ drop 1 p
    → IsGapped P Q p q old now n → (g : Gap) → IsGapOf q x g → IsGap P Q g
gapped_gap P Q x p q old now n e s g i =
    s.within g (record {
      left_in = subst (λ z. Contains z g.left) (sym e)
          (subst (Contains (x ∷ drop 1 p)) (sym i.left) (Contains-head x (drop 1 p)));
      maximal = subst (λ v. IsMaximal (IsUncovered q v) g.period) (sym i.left) i.maximal;
    })

pub gapped_end : (P Q p q : List Item) (old now : List Gap) (n : ℕ) → p ≡ [] → IsGapped P Q p q old now n
    → AddsAll GapStartsBefore (IsGap P Q) old now
gapped_end P Q p q old now n over g =
    record {
      added = g.added;
      split = g.split;
      all = subst (ListsGaps P Q) (append-nil g.added) (g.goes_on [] (IsListOf-none GapStartsBefore (IsGap p q) (λ h i.
          Contains-none h.left (subst (λ z. Contains z h.left) over i.left_in))));
    }

-- and all advances are made
pub gapped_exact : (P Q p q : List Item) (old now : List Gap) (n : ℕ) → p ≡ [] → IsGapped P Q p q old now n
    → n ≡ gap_advances_of P Q
gapped_exact P Q p q old now n over g = omega (arith, g.exact, gap_advances_end p q over)
