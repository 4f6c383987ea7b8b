-- The classes that both sides' ranks give split the current classes by the values.
use Rattle.std.proofs.Common.{◌≡◌, ◌↔◌, ℕ, ◌+◌, ◌-◌, ◌<◌, true, false, List, ◌++◌, length, get_or, Option, Some, refl, sym, subst, ap, ◌∙◌, inl, inr, arith, length-append}
use Rattle.std.specs.Cmp.{IsTotalOrder}
use Rattle.std.specs.declared.cmp.Ordering.{Ordering}
use Rattle.std.specs.Prelude.{All, slice_get}
use Rattle.std.proofs.lemmas.Bool.{cases_eq, cases_lt}
use Rattle.std.proofs.lemmas.List.{get_or-append_right, get_or_append_left}
use Rattle.list_core.proofs.PlaceLemmas.{slice_get-append_left, slice_get-append_right}
use Rattle.row_core.specs.declared.value.Kind.{Kind}
use Rattle.row_core.specs.declared.value.Value.{Value}
use Rattle.match_core.specs.declared.cells.Cell.{Cell}
use Rattle.match_core.specs.Cells.{AreMatched, AreNumbered, AreRanked, AreRising, IsCell, IsNumberOf, IsOfKind, Refines, same_cell}
use Rattle.match_core.specs.Compared.{Compares}
use Rattle.match_core.proofs.CellOrder.{SameCell, SameCell-sym, SameCell-trans, before-differs, same_cell-decides}
use Rattle.match_core.proofs.CellValues.{cells_same, class_from_cells, kind_at, one_value, value_from_cells}

-- ---- numbers of sort keys

-- The number of a key of either side: the index of the equal left key, or the index of the equal right key past all
-- left ones if no left key is equal.
pub data Numbers {V : Type 0} (cmp : V → V → Ordering) (lefts rights : List (Cell V)) (cell : Cell V) (number : ℕ)
    : Type 0 where
  left : number < length lefts → ((d : Cell V) → SameCell cmp (get_or lefts number d) cell)
      → Numbers cmp lefts rights cell number
  right : (at : ℕ) → at < length rights → number ≡ length lefts + at
      → ((d : Cell V) → SameCell cmp (get_or rights at d) cell)
      → ((d : Cell V) (l : ℕ) → l < length lefts → SameCell cmp (get_or lefts l d) cell → ⊥)
      → Numbers cmp lefts rights cell number

-- the test implies that keys are equal
same_from : {V : Type 0} (cmp : V → V → Ordering) (a b : Cell V) → same_cell cmp a b ≡ true → SameCell cmp a b
same_from cmp a b = (same_cell-decides cmp a b).0

module _ {V : Type 0} (cmp : V → V → Ordering) (total : IsTotalOrder cmp) where
  -- equal keys of an ascending list have the same index
  pub one_place : (cells : List (Cell V)) → AreRising cmp cells → (i j : ℕ) (d : Cell V) → i < length cells
      → j < length cells → SameCell cmp (get_or cells i d) (get_or cells j d) → i ≡ j
  one_place cells rise i j d hi hj same = elim (cases_eq i j) [
    | inl e ↦ e
    | inr ne ↦ elim (cases_lt i j) [
      | inl less ↦ absurd (apart i j less hj same)
      | inr le ↦ absurd (apart j i (omega arith) hi (SameCell-sym cmp total (get_or cells i d) (get_or cells j d) same))
    ]
  ]
    where
      apart : (a b : ℕ) → a < b → b < length cells → SameCell cmp (get_or cells a d) (get_or cells b d) → ⊥
      apart a b less inside alike =
          let known : same_cell cmp (get_or cells a d) (get_or cells b d) ≡ true =
          (same_cell-decides cmp (get_or cells a d) (get_or cells b d)).1 alike in
          let bad : true ≡ false =
          sym known ∙ before-differs cmp (get_or cells a d) (get_or cells b d) (rise a b d less inside) in
          cc

  -- two keys have the same number exactly if they are equal
  numbers_tell : (lefts rights : List (Cell V)) (a b : Cell V) (m n : ℕ) → AreRising cmp lefts → AreRising cmp rights
      → Numbers cmp lefts rights a m → Numbers cmp lefts rights b n → (m ≡ n) ↔ SameCell cmp a b
  numbers_tell lefts rights a b m n up down (left inside is) (left inside' is') = (
    λ e. SameCell-trans cmp total a (get_or lefts m a) b (SameCell-sym cmp total (get_or lefts m a) a (is a))
        (subst (λ k. SameCell cmp (get_or lefts k a) b) (sym e) (is' a)),
    λ same. one_place lefts up m n a inside inside'
        (SameCell-trans cmp total (get_or lefts m a) a (get_or lefts n a) (is a)
        (SameCell-trans cmp total a b (get_or lefts n a) same (SameCell-sym cmp total (get_or lefts n a) b (is' a)))),
  )
  numbers_tell lefts rights a b m n up down (left inside is) (right at within e is' none) = (
    λ f. absurd (omega (arith, f, e, inside)),
    λ same. absurd (none a m inside (SameCell-trans cmp total (get_or lefts m a) a b (is a) same)),
  )
  numbers_tell lefts rights a b m n up down (right at within e is none) (left inside is') = (
    λ f. absurd (omega (arith, f, e, inside)),
    λ same. absurd (none a n inside
        (SameCell-trans cmp total (get_or lefts n a) b a (is' a) (SameCell-sym cmp total a b same))),
  )
  numbers_tell lefts rights a b m n up down (right at within e is none) (right at' within' e' is' none') = (
    λ f. (let g : at ≡ at' = omega (arith, e, e', f) in
        SameCell-trans cmp total a (get_or rights at a) b (SameCell-sym cmp total (get_or rights at a) a (is a))
        (subst (λ k. SameCell cmp (get_or rights k a) b) (sym g) (is' a))),
    λ same. (let g : at ≡ at' = one_place rights down at at' a within within'
        (SameCell-trans cmp total (get_or rights at a) a (get_or rights at' a) (is a)
        (SameCell-trans cmp total a b (get_or rights at' a) same
        (SameCell-sym cmp total (get_or rights at' a) b (is' a)))) in
        e ∙ ap (λ k. length lefts + k) g ∙ sym e'),
  )

  -- the number of a right key is the number of any equal key
  number_of_right : (lefts rights : List (Cell V)) (r number : ℕ) (cell : Cell V) → r < length rights
      → ((d : Cell V) → SameCell cmp (get_or rights r d) cell) → IsNumberOf cmp lefts rights r number
      → Numbers cmp lefts rights cell number
  number_of_right lefts rights r number cell inside same (inl at) =
      left at.0
      (λ d. SameCell-trans cmp total (get_or lefts number d) (get_or rights r d) cell
      (same_from cmp (get_or lefts number d) (get_or rights r d) (at.1 d)) (same d))
  number_of_right lefts rights r number cell inside same (inr behind) =
      right r inside behind.0 same
      (λ d l within alike.
      let known : same_cell cmp (get_or lefts l d) (get_or rights r d) ≡ true =
      (same_cell-decides cmp (get_or lefts l d) (get_or rights r d)).1
      (SameCell-trans cmp total (get_or lefts l d) cell (get_or rights r d) alike
      (SameCell-sym cmp total (get_or rights r d) cell (same d))) in
      let bad : true ≡ false = sym known ∙ behind.1 d l d within in cc)

-- ---- the rows of both sides

-- A row's class is the number of its sort key.
record IsKnown {V : Type 0} (cmp : V → V → Ordering) (IsOf : Value → V → Type 0) (classes : List ℕ)
    (column : List (Option Value)) (lefts rights : List (Cell V)) (i class : ℕ) : Type 0 where
  pub cell : Cell V
  pub value : Value
  pub there : slice_get column i ≡ Some (Some value)
  pub made : (p : ℕ) × IsCell IsOf (get_or classes i 0) value p cell
  pub number : Numbers cmp lefts rights cell class

-- Both sides' current classes and ranks, the numbers of the right ranks, and the new right classes.
pub record AreSides {V : Type 0} (cmp : V → V → Ordering) (IsOf : Value → V → Type 0)
    (one other : List ℕ) (xs ys : List (Option Value)) (lefts rights numbers classes : List ℕ)
    (firsts others : List (Cell V)) : Type 0 where
  pub one_count : length one ≡ length xs
  pub other_count : length other ≡ length ys
  pub left : AreRanked cmp IsOf one xs lefts firsts
  pub right : AreRanked cmp IsOf other ys rights others
  pub matched : AreMatched cmp firsts others numbers
  pub numbered : AreNumbered rights numbers classes

module _ {V : Type 0} (kind : Kind) (IsOf : Value → V → Type 0) (cmp : V → V → Ordering)
    (total : IsTotalOrder cmp) (compares : Compares kind IsOf cmp)
    (one other : List ℕ) (xs ys : List (Option Value)) (lefts rights numbers classes : List ℕ)
    (firsts others : List (Cell V))
    (sides : AreSides cmp IsOf one other xs ys lefts rights numbers classes firsts others) where
  known_left : (i : ℕ) → i < length xs
      → IsKnown cmp IsOf (one ++ other) (xs ++ ys) firsts others i (get_or (lefts ++ classes) i 0)
  known_left i inside =
      let rank = sides.left.each i inside in
      let n = sides.left.count in
      let m = sides.one_count in
      let class : get_or (lefts ++ classes) i 0 ≡ get_or lefts i 0 =
      get_or_append_left lefts classes 0 i (omega (arith, n, inside)) in
      record {
        cell = rank.cell;
        value = rank.at.value;
        there = slice_get-append_left xs ys i (Some rank.at.value) rank.at.there;
        made = (
          i,
          subst (λ c. IsCell IsOf c rank.at.value i rank.cell)
              (sym (get_or_append_left one other 0 i (omega (arith, m, inside)))) rank.at.made,
        );
        number = subst (Numbers cmp firsts others rank.cell) (sym class)
            (left rank.within (λ d. same_from cmp (get_or firsts (get_or lefts i 0) d) rank.cell (rank.same d)));
      }

  known_right : (j : ℕ) → j < length ys
      → IsKnown cmp IsOf (one ++ other) (xs ++ ys) firsts others (length xs + j)
      (get_or (lefts ++ classes) (length xs + j) 0)
  known_right j inside =
      let rank = sides.right.each j inside in
      let n = sides.left.count in
      let m = sides.one_count in
      let k = sides.right.count in
      let back : length xs + j - length lefts ≡ j = omega (arith, n) in
      let was : length xs + j - length one ≡ j = omega (arith, m) in
      let class : get_or (lefts ++ classes) (length xs + j) 0 ≡ get_or numbers (get_or rights j 0) 0 =
      get_or-append_right lefts classes (length lefts) (length xs + j) 0 refl
      (omega (arith, n))
      ∙ ap (λ p. get_or classes p 0) back
      ∙ sides.numbered j (omega (arith, k, inside)) in
      let old : get_or (one ++ other) (length xs + j) 0 ≡ get_or other j 0 =
      get_or-append_right one other (length one) (length xs + j) 0 refl (omega (arith, m))
      ∙ ap (λ p. get_or other p 0) was in
      record {
        cell = rank.cell;
        value = rank.at.value;
        there = slice_get-append_right xs ys j ∙ rank.at.there;
        made = (j, subst (λ c. IsCell IsOf c rank.at.value j rank.cell) (sym old) rank.at.made);
        number = subst (Numbers cmp firsts others rank.cell) (sym class)
            (number_of_right cmp total firsts others (get_or rights j 0) (get_or numbers (get_or rights j 0) 0)
            rank.cell rank.within (λ d. same_from cmp (get_or others (get_or rights j 0) d) rank.cell (rank.same d))
            (sides.matched.each (get_or rights j 0) rank.within));
      }

  known_at : (i : ℕ) → i < length (one ++ other)
      → IsKnown cmp IsOf (one ++ other) (xs ++ ys) firsts others i (get_or (lefts ++ classes) i 0)
  known_at i inside = elim (cases_lt i (length xs)) [
    | inl less ↦ known_left i less
    | inr le ↦ (
        let n = sides.one_count in
        let m = sides.other_count in
        let all = length-append one other in
        let e : length xs + (i - length xs) ≡ i = omega arith in
        subst (λ k. IsKnown cmp IsOf (one ++ other) (xs ++ ys) firsts others k (get_or (lefts ++ classes) k 0)) e
        (known_right (i - length xs) (omega (arith, n, m, all, inside))))
  ]

  -- they split the current classes
  pub refined : All (IsOfKind kind) (xs ++ ys) → Refines (one ++ other) (xs ++ ys) (lefts ++ classes)
  refined all i j hi hj =
      let a = known_at i hi in
      let b = known_at j hj in
      let c = get_or (one ++ other) i 0 in
      let d = get_or (one ++ other) j 0 in
      let tell = numbers_tell cmp total firsts others a.cell b.cell (get_or (lefts ++ classes) i 0)
      (get_or (lefts ++ classes) j 0) sides.left.rise sides.right.rise a.number b.number in
      let (p, one_made) = a.made in
      let (q, other_made) = b.made in (
        λ e. (
            let s : SameCell cmp a.cell b.cell = tell.0 e in
            let same : a.value ≡ b.value =
            value_from_cells kind IsOf cmp compares c d a.value b.value p q a.cell b.cell
            (kind_at kind (xs ++ ys) i a.value all a.there) (kind_at kind (xs ++ ys) j b.value all b.there)
            one_made other_made s in (
              class_from_cells kind IsOf cmp compares c d a.value b.value p q a.cell b.cell one_made other_made s,
              a.there ∙ ap (λ (z : Value). Some (Some z)) same ∙ sym b.there,
            )),
        λ e. (
            let same : a.value ≡ b.value =
            one_value (xs ++ ys) i a.value b.value a.there (e.1 ∙ b.there) in
            tell.1 (cells_same kind IsOf cmp compares c a.value b.value p q a.cell b.cell one_made
            (subst (λ n. IsCell IsOf n b.value q b.cell) (sym e.0) other_made) same)),
      )
