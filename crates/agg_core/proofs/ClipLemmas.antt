-- Filtered and mapped lists, and maximal periods clipped to a slice of time.
use Rattle.std.proofs.Common.{◌≡◌, ◌↔◌, ◌⊎◌, ℤ, List, [], ◌∷◌, Option, Some, None, AllPairs, inl, inr, refl, sym, ap, subst, ◌∙◌, arith}
use Rattle.std.specs.Prelude.{Contains, option_map, pos, ◌-ℤ◌, ◌≤ℤ◌, ◌<ℤ◌}
use Rattle.std.specs.List.{cons_option, filter_map}
use Rattle.std.proofs.lemmas.Int.{ints}
use Rattle.std.proofs.lemmas.Option.{none-some, same_Some}
use Rattle.period_core.specs.declared.period.Period.{Period}
use Rattle.period_core.specs.Period.{Holds, HoldsIn, meet}
use Rattle.period_core.proofs.PeriodLemmas.{meet-holds}
use Rattle.list_core.proofs.RisingLemmas.{AllPairs-head, AllPairs-tail, Contains-cons, Contains-cons_cases, Contains-head, Contains-none}
use Rattle.list_core.proofs.WantedLemmas.{AllPairs-before}
use Rattle.merge_core.specs.Gaps.{IsMaximal}
use Rattle.merge_core.specs.Hits.{IsShared}
use Rattle.merge_core.proofs.SharedLemmas.{by_order, first_held, shared_once}

-- ---- `filter_map`

-- the result for an element is in the list
pub Contains-filter_map : {X Y : Type 0} (h : X → Option Y) (xs : List X) (x : X) (y : Y) → Contains xs x → h x ≡ Some y
    → Contains (filter_map h xs) y
Contains-filter_map {X} {Y} h [] x y there made = absurd (Contains-none x there)
Contains-filter_map {X} {Y} h (z ∷ xs) x y there made =
    by_first (h z) refl (λ later. Contains-filter_map h xs x y later made) (Contains-cons_cases z xs x there)
  where
    by_first : (o : Option Y) → h z ≡ o → (Contains xs x → Contains (filter_map h xs) y) → (z ≡ x) ⊎ Contains xs x
        → Contains (cons_option o (filter_map h xs)) y
    by_first None e rest (inl same) = absurd (none-some y (sym e ∙ ap h same ∙ made))
    by_first None e rest (inr later) = rest later
    by_first (Some w) e rest (inl same) =
        subst (Contains (w ∷ filter_map h xs)) (same_Some w y (sym e ∙ ap h same ∙ made))
        (Contains-head w (filter_map h xs))
    by_first (Some w) e rest (inr later) = Contains-cons w (filter_map h xs) y (rest later)

-- an element of the list is the result for some element
pub filter_map_source : {X Y : Type 0} (h : X → Option Y) (xs : List X) (y : Y) → Contains (filter_map h xs) y
    → (x : X) × Contains xs x × (h x ≡ Some y)
filter_map_source {X} {Y} h [] y there = absurd (Contains-none y there)
filter_map_source {X} {Y} h (z ∷ xs) y there = by_first (h z) refl (filter_map_source h xs y) there
  where
    by_first : (o : Option Y) → h z ≡ o
        → (Contains (filter_map h xs) y → (x : X) × Contains xs x × (h x ≡ Some y))
        → Contains (cons_option o (filter_map h xs)) y → (x : X) × Contains (z ∷ xs) x × (h x ≡ Some y)
    by_first None e rest k = let (x, inside, made) = rest k in (x, Contains-cons z xs x inside, made)
    by_first (Some w) e rest k = elim (Contains-cons_cases w (filter_map h xs) y k) [
      | inl same ↦ (z, Contains-head z xs, e ∙ ap Some same)
      | inr later ↦ let (x, inside, made) = rest later in (x, Contains-cons z xs x inside, made)
    ]

-- the results are in order if the function keeps the order
pub AllPairs-filter_map : {X Y : Type 0} (R : X → X → Type 0) (S : Y → Y → Type 0) (h : X → Option Y) (xs : List X)
    → ((a b : X) (c d : Y) → Contains xs a → Contains xs b → R a b → h a ≡ Some c → h b ≡ Some d → S c d)
    → AllPairs R xs → AllPairs S (filter_map h xs)
AllPairs-filter_map {X} {Y} R S h [] gives ordered = λ i j d less inside. absurd (omega arith)
AllPairs-filter_map {X} {Y} R S h (z ∷ xs) gives ordered =
    by_first (h z) refl
    (AllPairs-filter_map R S h xs
    (λ a b c d a_in b_in. gives a b c d (Contains-cons z xs a a_in) (Contains-cons z xs b b_in))
    (AllPairs-tail R z xs ordered))
  where
    by_first : (o : Option Y) → h z ≡ o → AllPairs S (filter_map h xs) → AllPairs S (cons_option o (filter_map h xs))
    by_first None e rest = rest
    by_first (Some w) e rest =
        AllPairs-before S w (filter_map h xs)
        (λ y k.
        let (x, inside, made) = filter_map_source h xs y k in
        gives z x w y (Contains-head z xs) (Contains-cons z xs x inside) (AllPairs-head R z xs x ordered inside) e made)
        rest

-- ---- the period that two periods share

-- it is their `meet`
met_is_shared : (a b p : Period) (o : Option Period) → ((t : ℤ) → HoldsIn o t ↔ (Holds a t × Holds b t))
    → IsShared a b p → o ≡ Some p
met_is_shared a b p None holds shared = absurd ((holds p.from).1 ((shared p.from).0 (first_held p)))
met_is_shared a b p (Some q) holds shared = ap Some (shared_once a b q p holds shared)

-- so a function of it is a function of the `meet`
pub made_of_shared : {Y : Type 0} (make : Period → Y) (a b p : Period) → IsShared a b p
    → option_map make (meet a b) ≡ Some (make p)
made_of_shared make a b p shared =
    ap (λ (o : Option Period). option_map make o) (met_is_shared a b p (meet a b) (meet-holds a b) shared)

-- a function of the `meet` is a function of the shared period
made_of : {Y : Type 0} (make : Period → Y) (a b : Period) (y : Y) (o : Option Period)
    → ((t : ℤ) → HoldsIn o t ↔ (Holds a t × Holds b t)) → option_map make o ≡ Some y
    → (p : Period) × IsShared a b p × (make p ≡ y)
made_of make a b y None holds made = absurd (none-some y made)
made_of make a b y (Some p) holds made = (p, holds, same_Some (make p) y made)

pub shared_of_made : {Y : Type 0} (make : Period → Y) (a b : Period) (y : Y) → option_map make (meet a b) ≡ Some y
    → (p : Period) × IsShared a b p × (make p ≡ y)
shared_of_made make a b y made = made_of make a b y (meet a b) (meet-holds a b) made

-- ---- maximal periods in a slice

-- The instants of a set within a slice.
abbrev pub InSlice : Period → (ℤ → Type 0) → ℤ → Type 0
InSlice slice Within t = Holds slice t × Within t

module _ (Within : ℤ → Type 0) (slice : Period) where
  -- a maximal period clipped to the slice is maximal there
  pub clipped_maximal : (p q : Period) → IsMaximal Within p → IsShared p slice q → IsMaximal (InSlice slice Within) q
  clipped_maximal p q m shared =
      let proper : q.from <ℤ q.to = q.ordered in
      let first : Holds p q.from = ((shared q.from).0 (first_held q)).0 in
      let last : Holds p (q.to -ℤ pos 1) =
      ((shared (q.to -ℤ pos 1)).0 (omega (arith, ints), omega (arith, ints))).0 in
      let starts : p.from ≤ℤ q.from = first.0 in
      let begun : q.from <ℤ p.to = first.1 in
      let ends : (q.to -ℤ pos 1) <ℤ p.to = last.1 in
      record {
        inside = λ t h. let both = (shared t).0 h in (both.1, m.inside t both.0);
        before = λ u. elim (by_order q.from p.from) [
          | inl h ↦ m.before (
              let e : q.from -ℤ pos 1 ≡ p.from -ℤ pos 1 = omega (arith, ints) in subst Within e u.1)
          | inr h ↦ (
              let in_q : Holds q (q.from -ℤ pos 1) =
              (shared (q.from -ℤ pos 1)).1 ((omega (arith, ints), omega (arith, ints)), u.0) in
              let low : q.from ≤ℤ (q.from -ℤ pos 1) = in_q.0 in omega (arith, ints))
        ];
        after = λ u. elim (by_order p.to q.to) [
          | inl h ↦ m.after (let e : q.to ≡ p.to = omega (arith, ints) in subst Within e u.1)
          | inr h ↦ (
              let in_q : Holds q q.to = (shared q.to).1 ((omega (arith, ints), h), u.0) in
              let high : q.to <ℤ q.to = in_q.1 in omega (arith, ints))
        ];
      }

  -- a maximal period there is the maximal period around its start, clipped to the slice
  pub shared_maximal : (p q : Period) → IsMaximal Within p → IsMaximal (InSlice slice Within) q → Holds p q.from
      → IsShared p slice q
  shared_maximal p q m o held t =
      let proper : q.from <ℤ q.to = q.ordered in
      let start : Holds slice q.from = (o.inside q.from (first_held q)).0 in
      let starts : p.from ≤ℤ q.from = held.0 in
      let begun : q.from <ℤ p.to = held.1 in
      let slice_starts : slice.from ≤ℤ q.from = start.0 in
      let slice_begun : q.from <ℤ slice.to = start.1 in (
        λ h. (
            let low : q.from ≤ℤ t = h.0 in
            let high : t <ℤ q.to = h.1 in
            let in_p : Holds p t = (
              omega (arith, ints),
              elim (by_order p.to t) [
                | inr k ↦ k
                | inl k ↦ absurd (m.after (o.inside p.to (omega (arith, ints), omega (arith, ints))).1)
              ],
            ) in
            (in_p, (o.inside t h).0)),
        λ both. (
            let low : p.from ≤ℤ t = both.0.0 in
            let high : t <ℤ p.to = both.0.1 in
            let slice_low : slice.from ≤ℤ t = both.1.0 in
            let slice_high : t <ℤ slice.to = both.1.1 in (
              elim (by_order q.from t) [
                | inl k ↦ k
                | inr k ↦ absurd (o.before (
                  (omega (arith, ints), omega (arith, ints)),
                  m.inside (q.from -ℤ pos 1) (omega (arith, ints), omega (arith, ints)),
                ))
              ],
              elim (by_order q.to t) [
                | inr k ↦ k
                | inl k ↦ absurd (o.after (
                  (omega (arith, ints), omega (arith, ints)),
                  m.inside q.to (omega (arith, ints), omega (arith, ints)),
                ))
              ],
            )),
      )
