-- The lists after a round.
use Rattle.std.proofs.Common.{◌≡◌, ◌+◌, ◌*◌, ◌<◌, ◌≤◌, ℕ, suc, Bool, true, false, cond, Option, Some, None, List, [], ◌∷◌, length, IsTrue, ◌⊎◌, inl, inr, refl, sym, subst, ap, ◌∙◌, arith}
use Rattle.std.specs.Prelude.{ℤ, ◌==◌, slice_get}
use Rattle.std.specs.Int.{int_min, int_max}
use Rattle.std.proofs.lemmas.Int.{ints, clamps}
use Rattle.merge_core.specs.declared.tally.Tally.{Tally}
use Rattle.merge_core.specs.Tallies.{both}
use Rattle.merge_core.specs.Steps.{StepList, IsBoth, tally_at}
use Rattle.merge_core.proofs.TallyLemmas.{tally_both}
use Rattle.merge_core.proofs.CombineLemmas.{Some-tally}
use Rattle.round_core.specs.declared.class_steps.ClassSteps.{ClassSteps}
use Rattle.round_core.specs.declared.round.Slot.{Slot}
use Rattle.round_core.specs.declared.round.Slot.TheVariants.{Aside, OfTwo}
use Rattle.round_core.specs.ClassLists.{tally_for, class_at, weight_of, RisesFrom, HaveNoNeighbours, IsRound}
use Rattle.round_core.specs.Rounds.{of, twos_in, sorted_lists, filled, AreBoths}
use Rattle.round_core.specs.Together.{all_weight}
use Rattle.round_core.specs.Twos.{list_at}

-- ---- adding tallies is associative

min-assoc : (a b c : ℤ) → int_min (int_min a b) c ≡ int_min a (int_min b c)
min-assoc a b c = omega (arith, ints, clamps)

max-assoc : (a b c : ℤ) → int_max (int_max a b) c ≡ int_max a (int_max b c)
max-assoc a b c = omega (arith, ints, clamps)

-- the order of additions doesn't matter
pub both-assoc : (a b c : Option Tally) → both (both a b) c ≡ both a (both b c)
both-assoc None b c = refl
both-assoc (Some a) None c = refl
both-assoc (Some a) (Some b) None = refl
both-assoc (Some a) (Some b) (Some c) =
    Some-tally (tally_both (tally_both a b) c) (tally_both a (tally_both b c)) (omega arith) (omega (arith, ints))
    (min-assoc a.min b.min c.min) (max-assoc a.max b.max c.max)

-- ---- the sums of twos

-- there is a sum for each two lists
pub boths-length : (twos made : List StepList) → AreBoths twos made → length made * 2 ≡ length twos
boths-length [] [] are = omega arith
boths-length [] (o ∷ made) are = absurd are
boths-length (a ∷ []) made are = absurd are
boths-length (a ∷ (b ∷ twos)) [] are = absurd are
boths-length (a ∷ (b ∷ twos)) (o ∷ made) are = let e = boths-length twos made are.1 in omega (arith, e)

-- the values of the pairs by number are the sums of each two lists
pub boths_by_number : (twos made : List StepList) → length made * 2 ≡ length twos
    → ((i : ℕ) (o : StepList) → slice_get made i ≡ Some o → IsBoth (list_at twos (i * 2)) (list_at twos (i * 2 + 1)) o)
    → AreBoths twos made
boths_by_number [] [] e each = tt
boths_by_number [] (o ∷ made) e each = absurd (omega arith)
boths_by_number (a ∷ []) [] e each = absurd (omega arith)
boths_by_number (a ∷ []) (o ∷ made) e each = absurd (omega arith)
boths_by_number (a ∷ (b ∷ twos)) [] e each = absurd (omega arith)
boths_by_number (a ∷ (b ∷ twos)) (o ∷ made) e each = (
  each 0 o refl,
  boths_by_number twos made (omega arith) (λ i x h.
      let l : suc i * 2 ≡ suc (suc (i * 2)) = omega arith in
      let r : suc i * 2 + 1 ≡ suc (suc (i * 2 + 1)) = omega arith in
      subst (λ (n : ℕ). IsBoth (list_at twos (i * 2)) (list_at (a ∷ (b ∷ twos)) n) x) r
      (subst (λ (n : ℕ). IsBoth (list_at (a ∷ (b ∷ twos)) n) (list_at (a ∷ (b ∷ twos)) (suc i * 2 + 1)) x) l
      (each (suc i) x h))),
)

-- ---- the result of a round

-- two lists of a class and their sum have the same tally
tally_of_two : (same : Bool) (a b o rest : Option Tally) → o ≡ both a b
    → both (cond same o None) rest ≡ both (cond same a None) (both (cond same b None) rest)
tally_of_two true a b o rest e = ap (λ z. both z rest) e ∙ both-assoc a b rest
tally_of_two false a b o rest e = refl

-- each class has the same tally as before
same_tallies : (slots : List Slot) (twos made : List StepList) → AreBoths twos made → (class : ℕ) (t : ℤ)
    → class_at class (filled slots made) t ≡ class_at class (sorted_lists slots twos) t
same_tallies [] twos made are class t = refl
same_tallies (Aside list ∷ slots) twos made are class t =
    ap (both (tally_for class list t)) (same_tallies slots twos made are class t)
same_tallies (OfTwo k ∷ slots) [] [] are class t = refl
same_tallies (OfTwo k ∷ slots) [] (o ∷ made) are class t = absurd are
same_tallies (OfTwo k ∷ slots) (a ∷ []) made are class t = absurd are
same_tallies (OfTwo k ∷ slots) (a ∷ (b ∷ twos)) [] are class t = absurd are
same_tallies (OfTwo k ∷ slots) (a ∷ (b ∷ twos)) (o ∷ made) are class t =
    ap (both (tally_for class (of k o) t)) (same_tallies slots twos made are.1 class t)
    ∙ tally_of_two (k == class) (tally_at a.steps t) (tally_at b.steps t) (tally_at o.steps t)
    (class_at class (sorted_lists slots twos) t) (are.0.tallies t)

-- the weight is the same as before
same_weight : (slots : List Slot) (twos made : List StepList) → AreBoths twos made
    → weight_of (filled slots made) ≡ weight_of (sorted_lists slots twos)
same_weight [] twos made are = refl
same_weight (Aside list ∷ slots) twos made are = let e = same_weight slots twos made are in omega (arith, e)
same_weight (OfTwo k ∷ slots) [] [] are = refl
same_weight (OfTwo k ∷ slots) [] (o ∷ made) are = absurd are
same_weight (OfTwo k ∷ slots) (a ∷ []) made are = absurd are
same_weight (OfTwo k ∷ slots) (a ∷ (b ∷ twos)) [] are = absurd are
same_weight (OfTwo k ∷ slots) (a ∷ (b ∷ twos)) (o ∷ made) are =
    let e = same_weight slots twos made are.1 in let w = are.0.weight in omega (arith, e, w)

-- the classes are still in ascending order
same_rise : (slots : List Slot) (twos made : List StepList) → AreBoths twos made → (least : ℕ)
    → RisesFrom least (sorted_lists slots twos) → RisesFrom least (filled slots made)
same_rise [] twos made are least r = tt
same_rise (Aside list ∷ slots) twos made are least r = (r.0, same_rise slots twos made are list.class r.1)
same_rise (OfTwo k ∷ slots) [] [] are least r = tt
same_rise (OfTwo k ∷ slots) [] (o ∷ made) are least r = absurd are
same_rise (OfTwo k ∷ slots) (a ∷ []) made are least r = absurd are
same_rise (OfTwo k ∷ slots) (a ∷ (b ∷ twos)) [] are least r = absurd are
same_rise (OfTwo k ∷ slots) (a ∷ (b ∷ twos)) (o ∷ made) are least r =
    (r.0, same_rise slots twos made are.1 k r.1.1)

-- if each two lists have a slot, there is one list less for each two
filled-length : (slots : List Slot) (twos made : List StepList) → AreBoths twos made → length twos ≡ twos_in slots * 2
    → length (filled slots made) + length made ≡ length (sorted_lists slots twos)
filled-length [] [] [] are e = omega arith
filled-length [] [] (o ∷ made) are e = absurd are
filled-length [] (a ∷ twos) made are e = absurd (omega arith)
filled-length (Aside list ∷ slots) twos made are e = let k = filled-length slots twos made are e in omega (arith, k)
filled-length (OfTwo k ∷ slots) [] made are e = absurd (omega arith)
filled-length (OfTwo k ∷ slots) (a ∷ []) made are e = absurd are
filled-length (OfTwo k ∷ slots) (a ∷ (b ∷ twos)) [] are e = absurd are
filled-length (OfTwo k ∷ slots) (a ∷ (b ∷ twos)) (o ∷ made) are e =
    let n = filled-length slots twos made are.1 (omega arith) in omega (arith, n)

-- the filled slots are the lists after a round
pub round_of : (all : List ClassSteps) (slots : List Slot) (twos made : List StepList) → sorted_lists slots twos ≡ all
    → AreBoths twos made → length twos ≡ twos_in slots * 2 → IsRound all (filled slots made)
round_of all slots twos made e are n =
    subst (λ z. IsRound z (filled slots made)) e (record {
      tallies = same_tallies slots twos made are;
      weight = same_weight slots twos made are;
      fewer = (let k = filled-length slots twos made are n in omega (arith, k));
      rises = same_rise slots twos made are;
    })

-- the twos are no more than all lists, and their weight isn't greater
pub twos-weight : (slots : List Slot) (twos : List StepList) → length twos ≡ twos_in slots * 2
    → all_weight twos ≤ weight_of (sorted_lists slots twos)
twos-weight [] [] e = omega arith
twos-weight [] (a ∷ twos) e = absurd (omega arith)
twos-weight (Aside list ∷ slots) twos e = let k = twos-weight slots twos e in omega (arith, k)
twos-weight (OfTwo k ∷ slots) [] e = absurd (omega arith)
twos-weight (OfTwo k ∷ slots) (a ∷ []) e = absurd (omega arith)
twos-weight (OfTwo k ∷ slots) (a ∷ (b ∷ twos)) e = let n = twos-weight slots twos (omega arith) in omega (arith, n)

pub twos-length : (slots : List Slot) (twos : List StepList) → length twos ≡ twos_in slots * 2
    → length twos ≤ length (sorted_lists slots twos)
twos-length [] [] e = omega arith
twos-length [] (a ∷ twos) e = absurd (omega arith)
twos-length (Aside list ∷ slots) twos e = let k = twos-length slots twos e in omega (arith, k)
twos-length (OfTwo k ∷ slots) [] e = absurd (omega arith)
twos-length (OfTwo k ∷ slots) (a ∷ []) e = absurd (omega arith)
twos-length (OfTwo k ∷ slots) (a ∷ (b ∷ twos)) e = let n = twos-length slots twos (omega arith) in omega (arith, n)

-- without twos the lists are unchanged
filled_alone : (slots : List Slot) → filled slots [] ≡ sorted_lists slots []
filled_alone [] = refl
filled_alone (Aside list ∷ slots) = ap (λ z. list ∷ z) (filled_alone slots)
filled_alone (OfTwo k ∷ slots) = refl

pub filled_without : (all : List ClassSteps) (slots : List Slot) (twos made : List StepList)
    → sorted_lists slots twos ≡ all → AreBoths twos made → twos ≡ [] → HaveNoNeighbours all
    → HaveNoNeighbours (filled slots made)
filled_without all slots [] [] e are none h = subst HaveNoNeighbours (sym (filled_alone slots ∙ e)) h
filled_without all slots [] (o ∷ made) e are none h = absurd are
filled_without all slots (a ∷ twos) made e are none h = let l = ap length none in absurd (omega (arith, l))

-- with twos there are fewer lists
pub filled_with : (all : List ClassSteps) (slots : List Slot) (twos made : List StepList)
    → sorted_lists slots twos ≡ all → AreBoths twos made → length twos ≡ twos_in slots * 2 → 0 < length twos
    → length (filled slots made) < length all
filled_with all slots twos made e are n some =
    let k = filled-length slots twos made are n in
    let m = boths-length twos made are in
    let l : length (sorted_lists slots twos) ≡ length all = ap length e in
    omega (arith, k, m, l, some)

-- a test holds, or something follows if it doesn't
pub fewer_or : (done : Bool) (Less : Type 0) → (done ≡ false → Less) → IsTrue done ⊎ Less
fewer_or true Less less = inl refl
fewer_or false Less less = inr (less refl)
