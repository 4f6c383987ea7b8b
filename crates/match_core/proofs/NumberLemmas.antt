-- The numbers of right sort keys, and the classes that both sides' ranks give.
use Rattle.std.proofs.Common.{◌≡◌, ℕ, ◌+◌, ◌<◌, ◌≤◌, true, false, List, [], ◌∷◌, ◌++◌, ap, length, take, get_or, sym, subst, ◌∙◌, inl, inr, arith, get_or-take}
use Rattle.std.specs.Cmp.{IsTotalOrder}
use Rattle.std.specs.declared.cmp.Ordering.{Ordering}
use Rattle.std.specs.Prelude.{All, IfSome, Option, slice_get}
use Rattle.std.proofs.lemmas.Bool.{cases_eq, cases_lt}
use Rattle.std.proofs.lemmas.List.{get_or_default, get_or_push, get_or_read, get_or_append_left, length_push, length-take-le, take_more}
use Rattle.std.proofs.lemmas.List.Elements.{All-push}
use Rattle.match_core.specs.declared.cells.Cell.{Cell}
use Rattle.std.proofs.lemmas.Option.{slice_get-get_or}
use Rattle.match_core.specs.Cells.{AreMatched, AreRising, IsNextTo, IsNumberOf, is_before, same_cell}
use Rattle.match_core.proofs.CellOrder.{after-differs, after-from, before-differs, before-trans}

-- The left keys before an index come before a right key.
abbrev pub AreBefore : {V : Type 0} → (V → V → Ordering) → List (Cell V) → ℕ → Cell V → Type 0
AreBefore cmp lefts left cell = All (λ x. is_before cmp x cell ≡ true) (take left lefts)

-- The first `right` right keys have numbers, and the left keys before index `left` come before all other right keys.
pub record Numbering {V : Type 0} (cmp : V → V → Ordering) (lefts rights : List (Cell V)) (right left : ℕ)
    (numbers : List ℕ) : Type 0 where
  pub within : left ≤ length lefts
  pub before : (k : ℕ) (d : Cell V) → right ≤ k → k < length rights → AreBefore cmp lefts left (get_or rights k d)
  pub count : length numbers ≡ right
  pub each : (k : ℕ) → k < right → IsNumberOf cmp lefts rights k (get_or numbers k 0)

module _ {V : Type 0} (cmp : V → V → Ordering) (total : IsTotalOrder cmp) where
  -- each of them comes before the key
  before_at : (lefts : List (Cell V)) (left l : ℕ) (cell d : Cell V) → left ≤ length lefts → l < left
      → AreBefore cmp lefts left cell → is_before cmp (get_or lefts l d) cell ≡ true
  before_at lefts left l cell d within less all =
      let n = length-take-le left lefts within in
      subst (λ x. is_before cmp x cell ≡ true) (get_or-take left lefts l d less) (all l d (omega (arith, n)))

  -- they also come before any key that comes after it
  pub before_later : (lefts : List (Cell V)) (left : ℕ) (cell later : Cell V) → is_before cmp cell later ≡ true
      → AreBefore cmp lefts left cell → AreBefore cmp lefts left later
  before_later lefts left cell later less all k d lt =
      before-trans cmp total (get_or (take left lefts) k d) cell later (all k d lt) less

  -- one more left key comes before it
  pub before_more : (lefts : List (Cell V)) (at : ℕ) (cell next : Cell V) → at < length lefts
      → next ≡ get_or lefts at next → AreBefore cmp lefts at cell → is_before cmp next cell ≡ true
      → AreBefore cmp lefts (at + 1) cell
  before_more lefts at cell next inside here all less =
      subst (All (λ x. is_before cmp x cell ≡ true)) (sym (take_more lefts at next inside))
      (All-push (λ x. is_before cmp x cell ≡ true) (take at lefts) (get_or lefts at next) all
      (subst (λ x. is_before cmp x cell ≡ true) here less))

  -- if the left keys before an index come before a right key, and the one at the index comes neither before it nor
  -- equals it, no left key equals it
  pub none_same : (lefts : List (Cell V)) (left : ℕ) (cell d : Cell V) → left ≤ length lefts → AreRising cmp lefts
      → AreBefore cmp lefts left cell
      → (left < length lefts → (is_before cmp (get_or lefts left d) cell ≡ false)
      × (same_cell cmp (get_or lefts left d) cell ≡ false))
      → All (λ x. same_cell cmp x cell ≡ false) lefts
  none_same lefts left cell d within rise before next l e inside = elim (cases_lt l left) [
    | inl less ↦ before-differs cmp (get_or lefts l e) cell (before_at lefts left l cell e within less before)
    | inr le ↦ (
        let there : left < length lefts = omega (arith, le, inside) in
        let same : get_or lefts left d ≡ get_or lefts left e = get_or_default lefts left d e there in
        let (not_before, differs) = next there in
        elim (cases_eq l left) [
          | inl at ↦
              subst (λ n. same_cell cmp (get_or lefts n e) cell ≡ false) (sym at)
              (subst (λ x. same_cell cmp x cell ≡ false) same differs)
          | inr ne ↦
              after-differs cmp total (get_or lefts l e) cell
              (before-trans cmp total cell (get_or lefts left e) (get_or lefts l e)
              (subst (λ x. is_before cmp cell x ≡ true) same
              (after-from cmp total (get_or lefts left d) cell not_before differs))
              (rise left l e (omega (arith, le, ne)) inside))
        ])
  ]

  -- ---- the loop

  -- at first no key has a number
  pub none_numbered : (lefts rights : List (Cell V)) (numbers : List ℕ) → numbers ≡ []
      → Numbering cmp lefts rights 0 0 numbers
  none_numbered lefts rights numbers none = record {
    within = omega arith;
    before = λ k d low lt i e less. absurd (omega arith);
    count = ap length none;
    each = λ k lt. absurd (omega arith);
  }

  -- at the end all keys have numbers
  pub all_numbered : (lefts rights : List (Cell V)) (right left : ℕ) (numbers : List ℕ) → right ≡ length rights
      → Numbering cmp lefts rights right left numbers → AreMatched cmp lefts rights numbers
  all_numbered lefts rights right left numbers end was =
      record { count = was.count ∙ end; each = λ k lt. was.each k (omega (arith, end, lt)) }

  -- the left keys up to the first one that doesn't come before a right key
  pub next_to : (lefts rights : List (Cell V)) (right left : ℕ) (cell : Cell V) → right < length rights
      → cell ≡ get_or rights right cell → AreBefore cmp lefts left cell
      → IfSome (slice_get lefts left) (λ x. is_before cmp x cell ≡ false) → IsNextTo cmp lefts rights right left
  next_to lefts rights right left cell inside here all after = record {
    before = λ d. subst (AreBefore cmp lefts left) (get_or_read rights right cell inside here d) all;
    next = λ d less. subst (λ x. is_before cmp (get_or lefts left d) x ≡ false)
        (get_or_read rights right cell inside here d)
        (subst (λ (o : Option (Cell V)). IfSome o (λ x. is_before cmp x cell ≡ false))
        (slice_get-get_or lefts left d less) after);
  }

  -- one more key has a number
  pub one_numbered : (lefts rights : List (Cell V)) (right left next number : ℕ) (numbers new : List ℕ) (cell : Cell V)
      → right < length rights → AreRising cmp rights → cell ≡ get_or rights right cell → next ≤ length lefts
      → AreBefore cmp lefts next cell → IsNumberOf cmp lefts rights right number → new ≡ numbers ++ number ∷ []
      → Numbering cmp lefts rights right left numbers → Numbering cmp lefts rights (right + 1) next new
  one_numbered lefts rights right left next number numbers new cell inside rise here within before is put was =
      let count = was.count in
      let len : length (numbers ++ number ∷ []) ≡ length numbers + 1 = length_push numbers number in
      subst (Numbering cmp lefts rights (right + 1) next) (sym put) (record {
        within = within;
        before = λ k d low in_range.
            before_later lefts next cell (get_or rights k d)
            (subst (λ x. is_before cmp x (get_or rights k d) ≡ true) (sym (get_or_read rights right cell inside here d))
            (rise right k d (omega arith) in_range)) before;
        count = omega (arith, len, count);
        each = λ k lt. elim (cases_lt k right) [
          | inl less ↦
              subst (IsNumberOf cmp lefts rights k)
              (sym (get_or_append_left numbers (number ∷ []) 0 k (omega (arith, count)))) (was.each k less)
          | inr le ↦ (
              let e : right ≡ k = omega arith in
              subst (λ n. IsNumberOf cmp lefts rights n (get_or (numbers ++ number ∷ []) n 0)) e
              (subst (IsNumberOf cmp lefts rights right)
              (sym (get_or_push numbers number 0 right count)) is))
        ];
      })
