-- Sorting lists for a round, and filling the slots.
use Rattle.std.proofs.Common.{◌≡◌, ◌+◌, ◌*◌, ℕ, List, [], ◌∷◌, ◌++◌, length, sym, subst, ap, ◌∙◌, arith, append_assoc, append-nil, length-append}
use Rattle.merge_core.specs.Steps.{StepList}
use Rattle.round_core.specs.declared.class_steps.ClassSteps.{ClassSteps}
use Rattle.round_core.specs.declared.round.Slot.{Slot}
use Rattle.round_core.specs.declared.round.Slot.TheVariants.{Aside, OfTwo}
use Rattle.round_core.specs.ClassLists.{StartsOtherwise, HaveNoNeighbours}
use Rattle.round_core.specs.Rounds.{of, twos_in, sorted_lists, filled}

-- ---- sorting

-- The slots and twos until now, followed by the remaining lists' ones, are the slots and twos of all lists. Without
-- any two until now, only the remaining lists can have neighbours.
pub record IsSorting (all left : List ClassSteps) (slots : List Slot) (twos : List StepList) : Type 0 where
  pub goes_on : (rest : List Slot) (more : List StepList) → sorted_lists rest more ≡ left
      → sorted_lists (slots ++ rest) (twos ++ more) ≡ all
  pub count : length twos ≡ twos_in slots * 2
  pub done : twos ≡ [] → HaveNoNeighbours left → HaveNoNeighbours all

twos_in-append : (slots rest : List Slot) → twos_in (slots ++ rest) ≡ twos_in slots + twos_in rest
twos_in-append [] rest = omega arith
twos_in-append (Aside list ∷ slots) rest = twos_in-append slots rest
twos_in-append (OfTwo class ∷ slots) rest = let e = twos_in-append slots rest in omega (arith, e)

none_behind : (twos : List StepList) (a : StepList) → twos ++ a ∷ [] ≡ [] → ⊥
none_behind twos a e = let l = ap length e in let k = length-append twos (a ∷ []) in omega (arith, l, k)

-- a list without a neighbour is set aside
pub sorting_aside : (all left left' : List ClassSteps) (slots slots' : List Slot) (twos : List StepList)
    (first : ClassSteps) → left ≡ first ∷ left' → StartsOtherwise first.class left' → slots' ≡ slots ++ Aside first ∷ []
    → IsSorting all left slots twos → IsSorting all left' slots' twos
sorting_aside all left left' slots slots' twos first e other f was =
    record {
      goes_on = λ rest more g.
          ap (λ z. sorted_lists z (twos ++ more)) (ap (λ z. z ++ rest) f ∙ append_assoc slots (Aside first ∷ []) rest)
          ∙ was.goes_on (Aside first ∷ rest) more (ap (λ z. first ∷ z) g ∙ sym e);
      count = (
          let n = ap twos_in f in let m = twos_in-append slots (Aside first ∷ []) in let k = was.count in
          omega (arith, n, m, k));
      done = λ none h. was.done none (subst HaveNoNeighbours (sym e) (other, h));
    }

-- two neighbours of one class will be added
pub sorting_two : (all left left' : List ClassSteps) (slots slots' : List Slot) (twos twos' : List StepList) (class : ℕ)
    (one other : StepList) (second : ClassSteps) → left ≡ of class one ∷ (second ∷ left') → second.class ≡ class
    → second.steps ≡ other → slots' ≡ slots ++ OfTwo class ∷ [] → twos' ≡ (twos ++ one ∷ []) ++ other ∷ []
    → IsSorting all left slots twos → IsSorting all left' slots' twos'
sorting_two all left left' slots slots' twos twos' class one other second e c s f g was =
    let same : second ≡ of class other = λ k. record { class = c k; steps = s k } in
    record {
      goes_on = λ rest more h.
          ap (λ z. sorted_lists z (twos' ++ more)) (ap (λ z. z ++ rest) f ∙ append_assoc slots (OfTwo class ∷ []) rest)
          ∙ ap (λ z. sorted_lists (slots ++ OfTwo class ∷ rest) z) (
          ap (λ z. z ++ more) g ∙ append_assoc (twos ++ one ∷ []) (other ∷ []) more
          ∙ append_assoc twos (one ∷ []) (other ∷ more))
          ∙ was.goes_on (OfTwo class ∷ rest) (one ∷ (other ∷ more)) (
          ap (λ z. of class one ∷ (of class other ∷ z)) h ∙ ap (λ z. of class one ∷ (z ∷ left')) (sym same) ∙ sym e);
      count = (
          let n = ap twos_in f in let m = twos_in-append slots (OfTwo class ∷ []) in let k = was.count in
          let a = ap length g in let b = length-append (twos ++ one ∷ []) (other ∷ []) in
          let d = length-append twos (one ∷ []) in
          omega (arith, n, m, k, a, b, d));
      done = λ none h. absurd (none_behind (twos ++ one ∷ []) other (sym g ∙ none));
    }

pub sorting_end : (all left : List ClassSteps) (slots : List Slot) (twos : List StepList) → left ≡ []
    → IsSorting all left slots twos → sorted_lists slots twos ≡ all
sorting_end all left slots twos e was =
    ap (λ z. sorted_lists z twos) (sym (append-nil slots))
    ∙ ap (λ z. sorted_lists (slots ++ []) z) (sym (append-nil twos)) ∙ was.goes_on [] [] (sym e)

-- ---- filling

-- The lists until now, followed by the lists of the remaining slots and sums, are all lists.
pub record IsFilling (all lists : List ClassSteps) (slots : List Slot) (made : List StepList) : Type 0 where
  pub goes_on : lists ++ filled slots made ≡ all
  pub count : length made ≡ twos_in slots
