-- The last ends of the parts, and how they change with the parts.
use Rattle.std.proofs.Common.{◌≡◌, ◌≢◌, ◌==◌, ℕ, suc, ◌+◌, ◌<◌, ◌≤◌, ℤ, ◌<ℤ◌, Bool, true, false, cond, List, [], ◌∷◌, ◌++◌, length, get_or, set, Some, arith, refl, sym, ap, ◌∙◌, inl, inr, subst, length-append, eq-eqb}
use Rattle.std.specs.Prelude.{All, Contains, IsPermutation, count_by}
use Rattle.std.specs.List.{HoldsAt}
use Rattle.std.proofs.lemmas.Bool.{cases_lt, cases_eq, eqb-true, false_from_ne_true}
use Rattle.std.proofs.lemmas.Int.{ints}
use Rattle.std.proofs.lemmas.List.Elements.{All-cons, All-head, All-tail, All-push, All-contains}
use Rattle.std.proofs.lemmas.List.Sums.{sum_by-cons, sum_by_push, get_or-le-sum_by}
use Rattle.std.proofs.lemmas.List.Sorted.{All-permutation, sum_by-IsPermutation, length_permutation}
use Rattle.dip_core.specs.declared.item.Item.{Item}
use Rattle.dip_core.specs.Division.{part_at}
use Rattle.dip_core.specs.Placing.{added, last_end, IsBestPart, NoPartIsFree}
use Rattle.dip_core.specs.Heap.{ComesFirst, Ending, HoldLastEnds, IsFirstOver, IsHeap}
use Rattle.dip_core.proofs.AddedLemmas.{part_at-added_same, part_at-added_other, length-added_joined, length-added_opened}
use Rattle.dip_core.proofs.HeapLemmas.{top}
use Rattle.dip_core.proofs.LastLemmas.{is_part, same_end, last_end-push}

-- `e` is the last end of its part
abbrev IsLastEnd : List (List Item) → Ending → Type 0
IsLastEnd parts e = last_end (part_at parts e.number) ≡ Some e.end

-- ---- counts

-- the number of ends that belong to part `k`
abbrev ends_of : ℕ → List Ending → ℕ
ends_of k ends = count_by (λ e. e.number == k) ends

first_or_later : (k : ℕ) (e : Ending) (ends : List Ending) (b : Bool) → (e.number == k) ≡ b
    → (0 < ends_of k ends → (y : Ending) × Contains ends y × (y.number ≡ k))
    → 0 < ends_of k (e ∷ ends) → ends_of k (e ∷ ends) ≡ cond (e.number == k) 1 0 + ends_of k ends
    → (y : Ending) × Contains (e ∷ ends) y × (y.number ≡ k)
first_or_later k e ends true q later some total = (e, (0, omega arith, refl), eqb-true e.number k q)
first_or_later k e ends false q later some total =
    let total' : ends_of k (e ∷ ends) ≡ 0 + ends_of k ends = total ∙ ap (λ b. cond b 1 0 + ends_of k ends) q in
    let (y, (i, within, at), is) = later (omega (arith, total')) in
    (y, (suc i, omega arith, at), is)

-- if the count is positive, there is such an end
counted-somewhere : (k : ℕ) (ends : List Ending) → 0 < ends_of k ends → (e : Ending) × Contains ends e × (e.number ≡ k)
counted-somewhere k [] some = absurd (omega arith)
counted-somewhere k (e ∷ ends) some =
    first_or_later k e ends (e.number == k) refl (counted-somewhere k ends) some
    (sum_by-cons (λ (y : Ending). cond (y.number == k) 1 0) e ends)

-- without such an end the count is 0
counted-nowhere : (k : ℕ) (ends : List Ending) → All (λ e. e.number ≢ k) ends → ends_of k ends ≡ 0
counted-nowhere k ends none = elim (cases_lt 0 (ends_of k ends)) [
  | inl some ↦
      let (e, member, is) = counted-somewhere k ends some in
      absurd (All-contains (λ (y : Ending). y.number ≢ k) ends e none member is)
  | inr none' ↦ omega arith
]

-- ---- changes

-- reordering keeps the last ends
pub HoldLastEnds-permutation : (parts : List (List Item)) (xs ys : List Ending) → IsPermutation xs ys
    → HoldLastEnds parts xs → HoldLastEnds parts ys
HoldLastEnds-permutation parts xs ys same was = record {
  long = length_permutation xs ys same ∙ was.long;
  right = All-permutation (IsLastEnd parts) xs ys same was.right;
  each = λ k h. sum_by-IsPermutation (λ (e : Ending). cond (e.number == k) 1 0) xs ys same ∙ was.each k h;
}

-- the part of the first end gets one more item
HoldLastEnds-joined : (parts : List (List Item)) (first : Ending) (rest : List Ending) (x : Item) (new : Ending)
    → new.end ≡ x.period.to → new.number ≡ first.number
    → HoldLastEnds parts (first ∷ rest) → HoldLastEnds (added parts first.number x) (new ∷ rest)
HoldLastEnds-joined parts first rest x new end number was =
    let known : last_end (part_at parts first.number) ≡ Some first.end =
    All-head (IsLastEnd parts) first rest was.right in
    let within : first.number < length parts = is_part parts first.number first.end known in
    let long : length (added parts first.number x) ≡ length parts = length-added_joined parts first.number x within in
    record {
      long = was.long ∙ sym long;
      right = All-cons (IsLastEnd (added parts first.number x)) new rest
          (ap (λ n. last_end (part_at (added parts first.number x) n)) number
          ∙ ap last_end (part_at-added_same parts first.number x (omega arith))
          ∙ last_end-push (part_at parts first.number) x
          ∙ ap Some (sym end))
          (λ i d h.
          let same : part_at (added parts first.number x) (get_or rest i d).number
          ≡ part_at parts (get_or rest i d).number =
          part_at-added_other parts first.number (get_or rest i d).number x (omega arith) (other i d h) in
          ap last_end same ∙ All-tail (IsLastEnd parts) first rest was.right i d h);
      each = λ k h.
          sum_by-cons (λ (e : Ending). cond (e.number == k) 1 0) new rest
          ∙ ap (λ n. cond (n == k) 1 0 + ends_of k rest) number
          ∙ sym (sum_by-cons (λ (e : Ending). cond (e.number == k) 1 0) first rest)
          ∙ was.each k (omega arith);
    }
  where
    other : (i : ℕ) (d : Ending) → i < length rest → (get_or rest i d).number ≢ first.number
    other i d h e =
        let known : last_end (part_at parts first.number) ≡ Some first.end =
        All-head (IsLastEnd parts) first rest was.right in
        let one : ends_of first.number (first ∷ rest) ≡ 1 =
        was.each first.number (is_part parts first.number first.end known) in
        let total : ends_of first.number (first ∷ rest) ≡ cond (first.number == first.number) 1 0
        + ends_of first.number rest =
        sum_by-cons (λ (y : Ending). cond (y.number == first.number) 1 0) first rest in
        let total' : ends_of first.number (first ∷ rest) ≡ 1 + ends_of first.number rest =
        total ∙ ap (λ b. cond b 1 0 + ends_of first.number rest) (eq-eqb first.number first.number refl) in
        let again : cond ((get_or rest i d).number == first.number) 1 0 ≤ ends_of first.number rest =
        get_or-le-sum_by (λ (y : Ending). cond (y.number == first.number) 1 0) rest i d h in
        let again' : 1 ≤ ends_of first.number rest =
        subst (λ b. cond b 1 0 ≤ ends_of first.number rest) (eq-eqb (get_or rest i d).number first.number e) again in
        absurd (omega (arith, one, total', again'))

-- there is one more part
pub HoldLastEnds-opened : (parts : List (List Item)) (ends : List Ending) (x : Item) (new : Ending)
    → new.end ≡ x.period.to → new.number ≡ length parts
    → HoldLastEnds parts ends → HoldLastEnds (added parts (length parts) x) (ends ++ new ∷ [])
HoldLastEnds-opened parts ends x new end number was =
    let long : length (added parts (length parts) x) ≡ length parts + 1 = length-added_opened parts x in
    let ends_long : length (ends ++ new ∷ []) ≡ length ends + 1 = length-append ends (new ∷ []) in
    let as_many : length ends ≡ length parts = was.long in
    record {
      long = omega arith;
      right =
          All-push (IsLastEnd (added parts (length parts) x)) ends new
          (λ i d h.
          let same : part_at (added parts (length parts) x) (get_or ends i d).number
          ≡ part_at parts (get_or ends i d).number =
          part_at-added_other parts (length parts) (get_or ends i d).number x (omega arith) (lower i d h) in
          ap last_end same ∙ was.right i d h)
          (ap (λ n. last_end (part_at (added parts (length parts) x) n)) number
          ∙ ap last_end (part_at-added_same parts (length parts) x (omega arith))
          ∙ last_end-push (part_at parts (length parts)) x
          ∙ ap Some (sym end));
      each = λ k h.
          let total : ends_of k (ends ++ new ∷ []) ≡ ends_of k ends + cond (new.number == k) 1 0 =
          sum_by_push (λ (e : Ending). cond (e.number == k) 1 0) ends new in
          count k (omega arith) (total ∙ ap (λ n. ends_of k ends + cond (n == k) 1 0) number);
    }
  where
    lower : (i : ℕ) (d : Ending) → i < length ends → (get_or ends i d).number ≢ length parts
    lower i d h e =
        let within : (get_or ends i d).number < length parts =
        is_part parts (get_or ends i d).number (get_or ends i d).end (was.right i d h) in
        absurd (omega arith)

    count : (k : ℕ) → k < length parts + 1
        → ends_of k (ends ++ new ∷ []) ≡ ends_of k ends + cond (length parts == k) 1 0
        → ends_of k (ends ++ new ∷ []) ≡ 1
    count k h total = elim (cases_eq (length parts) k) [
      | inl last ↦
          let none : ends_of k ends ≡ 0 =
          counted-nowhere k ends (λ i d h'. λ e. lower i d h' (e ∙ sym last)) in
          let total' : ends_of k (ends ++ new ∷ []) ≡ ends_of k ends + 1 =
          total ∙ ap (λ b. ends_of k ends + cond b 1 0) (eq-eqb (length parts) k last) in
          omega (arith, none, total')
      | inr other ↦
          let one : ends_of k ends ≡ 1 = was.each k (omega arith) in
          let total' : ends_of k (ends ++ new ∷ []) ≡ ends_of k ends + 0 =
          total ∙ ap (λ b. ends_of k ends + cond b 1 0)
          (false_from_ne_true (length parts == k) (λ q. other (eqb-true (length parts) k q))) in
          omega (arith, one, total')
    ]

-- the same for a list given by index instead of head and tail
pub HoldLastEnds-set : (parts : List (List Item)) (ends : List Ending) (k : ℕ) (x : Item) (new : Ending)
    → 0 < length ends → HoldsAt (λ e. e.number ≡ k) ends 0 → new.end ≡ x.period.to → new.number ≡ k
    → HoldLastEnds parts ends → HoldLastEnds (added parts k x) (set ends 0 new)
HoldLastEnds-set parts [] k x new some first end number was = absurd (omega arith)
HoldLastEnds-set parts (e ∷ rest) k x new some first end number was =
    let k_is : e.number ≡ k = first e in
    subst (λ n. HoldLastEnds (added parts n x) (new ∷ rest)) k_is
    (HoldLastEnds-joined parts e rest x new end (number ∙ sym k_is) was)

-- ---- the part that ends first

-- each part's end is in the list
end_of : (parts : List (List Item)) (ends : List Ending) (j : ℕ) (f : ℤ) → HoldLastEnds parts ends
    → last_end (part_at parts j) ≡ Some f → (e : Ending) × Contains ends e × (e.number ≡ j) × (e.end ≡ f)
end_of parts ends j f hold ends_j =
    let one : ends_of j ends ≡ 1 = hold.each j (is_part parts j f ends_j) in
    let found = counted-somewhere j ends (omega arith) in
    let (e, member, number) = found in
    let known : last_end (part_at parts e.number) ≡ Some e.end =
    All-contains (IsLastEnd parts) ends e hold.right member in (
      e,
      member,
      number,
      same_end (part_at parts j) e.end f
          (subst (λ n. last_end (part_at parts n) ≡ Some e.end) number known) ends_j,
    )

-- if the first end is over, its part is the best
pub best-first : (parts : List (List Item)) (ends : List Ending) (start : ℤ) (k : ℕ) → HoldLastEnds parts ends
    → IsFirstOver ends start k → IsBestPart parts start k
best-first parts [] start k hold is = let some : 0 < 0 = is.some in absurd (omega arith)
best-first parts (first ∷ rest) start k hold is =
    let k_is : first.number ≡ k = is.number first in
    let known : last_end (part_at parts first.number) ≡ Some first.end = hold.right 0 first is.some in
    record {
      end = first.end;
      ends = subst (λ n. last_end (part_at parts n) ≡ Some first.end) k_is known;
      over = is.over first;
      best = λ j f ends_j over_j.
          let (e, (i, within, at), e_number, e_end) = end_of parts (first ∷ rest) j f hold ends_j in
          let order : ComesFirst first e = subst (λ y. ComesFirst first y) at (is.first i e within) in
          elim order [
            | inl less ↦ inl (omega (arith, ints))
            | inr same ↦ let s : first.end ≡ e.end = same.0 in inr (s ∙ e_end, omega arith)
          ];
    }

-- if no end is over, no part is free
pub none-over : (parts : List (List Item)) (ends : List Ending) (start : ℤ) → All (λ e. start <ℤ e.end) ends
    → HoldLastEnds parts ends → NoPartIsFree parts start
none-over parts ends start none hold = λ j f ends_j.
    let (e, member, e_number, e_end) = end_of parts ends j f hold ends_j in
    subst (λ z. start <ℤ z) e_end (All-contains (λ (y : Ending). start <ℤ y.end) ends e none member)

-- if the first end isn't over, none is
pub none-first : (ends : List Ending) (start : ℤ) → HoldsAt (λ e. start <ℤ e.end) ends 0 → IsHeap ends
    → All (λ e. start <ℤ e.end) ends
none-first ends start first heap = λ k d within.
    let later : start <ℤ (get_or ends 0 d).end = first d in
    elim (top ends d k heap within) [
      | inl less ↦ omega (arith, ints)
      | inr same ↦ let s : (get_or ends 0 d).end ≡ (get_or ends k d).end = same.0 in omega (arith, ints)
    ]

-- the first end's part number is within the parts
pub first-within : (parts : List (List Item)) (ends : List Ending) (k : ℕ) → 0 < length ends
    → HoldsAt (λ e. e.number ≡ k) ends 0 → HoldLastEnds parts ends → k < length parts
first-within parts [] k some number hold = absurd (omega arith)
first-within parts (first ∷ rest) k some number hold =
    subst (λ n. n < length parts) (number first) (is_part parts first.number first.end (hold.right 0 first some))
