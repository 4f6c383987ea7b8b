-- Values for columns, by index.
use Rattle.std.proofs.Common.{◌≡◌, ℕ, ◌+◌, ◌<◌, ◌≤◌, List, [], ◌∷◌, ◌&&◌, Bool, true, false, Option, Some, None, length, drop, get_or, set, replicate, zero, suc, add-one, refl, ap, sym, subst, ◌∙◌, arith}
use Rattle.std.specs.Prelude.{option_map, slice_get, unwrap_or}
use Rattle.std.proofs.Math.Bool.{and-false, and_assoc, and_comm}
use Rattle.std.proofs.lemmas.Bool.{and_parts}
use Rattle.std.proofs.lemmas.Option.{same_Some}
use Rattle.row_core.specs.ValueOrder.{same_value}
use Rattle.row_core.proofs.ValueLemmas.{same_value_is}
use Rattle.row_core.specs.declared.value.Value.{Value}
use Rattle.version_core.specs.Wanted.{are_wanted, with_set}

-- the value in a column is the wanted one
abbrev pub is_met : Option Value → Option Value → Bool
is_met None found = true
is_met (Some one) found = unwrap_or (option_map (same_value one) found) false

-- no wanted values
pub none-wanted : (n : ℕ) (values : List Value) → are_wanted (replicate n None) values ≡ true
none-wanted zero values = refl
none-wanted (suc n) [] = none-wanted n []
none-wanted (suc n) (value ∷ values) = none-wanted n values

pub none-set : (n : ℕ) (values : List Value) → with_set (replicate n None) values ≡ values
none-set zero values = refl
none-set (suc n) [] = refl
none-set (suc n) (value ∷ values) = ap (λ l. value ∷ l) (none-set n values)

-- dropping from an empty list
drop-nil : (i : ℕ) → drop {A = Value} i [] ≡ []
drop-nil zero = refl
drop-nil (suc i) = refl

-- one column further
more-wanted : (wanted : List (Option Value)) (values : List Value) (i : ℕ) → i < length wanted
    → are_wanted (drop i wanted) (drop i values) ≡ (is_met (get_or wanted i None) (slice_get values i)
    && are_wanted (drop (suc i) wanted) (drop (suc i) values))
more-wanted [] values i inside = absurd (omega arith)
more-wanted (None ∷ wanted) [] zero inside = refl
more-wanted (None ∷ wanted) (value ∷ values) zero inside = refl
more-wanted (Some one ∷ wanted) [] zero inside = refl
more-wanted (Some one ∷ wanted) (value ∷ values) zero inside = refl
more-wanted (one ∷ wanted) [] (suc i) inside =
    subst (λ l. are_wanted (drop i wanted) l ≡ (is_met (get_or wanted i None) None
    && are_wanted (drop (suc i) wanted) []))
    (drop-nil i) (more-wanted wanted [] i (omega arith))
more-wanted (one ∷ wanted) (value ∷ values) (suc i) inside = more-wanted wanted values i (omega arith)

pub wanted-more : (wanted : List (Option Value)) (values : List Value) (i : ℕ) → i < length wanted
    → are_wanted (drop i wanted) (drop i values) ≡ (is_met (get_or wanted i None) (slice_get values i)
    && are_wanted (drop (i + 1) wanted) (drop (i + 1) values))
wanted-more wanted values i inside =
    subst (λ k. are_wanted (drop i wanted) (drop i values) ≡ (is_met (get_or wanted i None) (slice_get values i)
    && are_wanted (drop k wanted) (drop k values))) (sym (add-one i)) (more-wanted wanted values i inside)

-- at the end no column remains
pub wanted-all : (wanted : List (Option Value)) (values : List Value) (i : ℕ) → length wanted ≤ i
    → are_wanted (drop i wanted) values ≡ true
wanted-all [] values zero past = refl
wanted-all [] values (suc i) past = refl
wanted-all (one ∷ wanted) values zero past = absurd (omega arith)
wanted-all (one ∷ wanted) values (suc i) past = wanted-all wanted values i (omega arith)

-- one value further
more-set : (sets : List (Option Value)) (values : List Value) (i : ℕ) (value : Value) → i < length values
    → with_set (drop i sets) (drop i values)
    ≡ unwrap_or (get_or sets i None) (get_or values i value) ∷ with_set (drop (suc i) sets) (drop (suc i) values)
more-set sets [] i value inside = absurd (omega arith)
more-set [] (v ∷ values) zero value inside = refl
more-set (s ∷ sets) (v ∷ values) zero value inside = refl
more-set [] (v ∷ values) (suc i) value inside =
    subst (λ l. with_set l (drop i values) ≡ get_or values i value ∷ drop (suc i) values)
    (drop-unset i)
    (subst (λ l. with_set (drop i []) (drop i values) ≡ get_or values i value ∷ with_set l (drop (suc i) values))
    (drop-unset (suc i)) (more-set [] values i value (omega arith)))
  where
    drop-unset : (i : ℕ) → drop {A = Option Value} i [] ≡ []
    drop-unset zero = refl
    drop-unset (suc i) = refl
more-set (s ∷ sets) (v ∷ values) (suc i) value inside = more-set sets values i value (omega arith)

pub with-more : (sets : List (Option Value)) (values : List Value) (i : ℕ) (value : Value) → i < length values
    → with_set (drop i sets) (drop i values)
    ≡ unwrap_or (get_or sets i None) (get_or values i value) ∷ with_set (drop (i + 1) sets) (drop (i + 1) values)
with-more sets values i value inside =
    subst (λ k. with_set (drop i sets) (drop i values)
    ≡ unwrap_or (get_or sets i None) (get_or values i value) ∷ with_set (drop k sets) (drop k values))
    (sym (add-one i)) (more-set sets values i value inside)

-- a value that is set replaces the one before
pub set-more : (sets : List (Option Value)) (values : List Value) (i : ℕ) (one : Value) → i < length sets
    → with_set (set sets i (Some one)) values ≡ set (with_set sets values) i one
set-more [] values i one inside = absurd (omega arith)
set-more (s ∷ sets) [] zero one inside = refl
set-more (s ∷ sets) [] (suc i) one inside = refl
set-more (s ∷ sets) (value ∷ values) zero one inside = refl
set-more (s ∷ sets) (value ∷ values) (suc i) one inside =
    ap (λ l. unwrap_or s value ∷ l) (set-more sets values i one (omega arith))

-- at the end no value remains
pub with-all : (sets : List (Option Value)) (values : List Value) (i : ℕ) → length values ≤ i
    → with_set sets (drop i values) ≡ []
with-all sets [] i past = ap (with_set sets) (drop-nil i) ∙ none sets where
  none : (sets : List (Option Value)) → with_set sets [] ≡ []
  none [] = refl
  none (s ∷ sets) = refl
with-all sets (value ∷ values) zero past = absurd (omega arith)
with-all sets (value ∷ values) (suc i) past = with-all sets values i (omega arith)

-- a row that has all wanted values has each of them
pub each-wanted : (wanted : List (Option Value)) (values : List Value) (column : ℕ) (one : Value)
    → get_or wanted column None ≡ Some one → are_wanted wanted values ≡ true
    → unwrap_or (option_map (same_value one) (slice_get values column)) false ≡ true
each-wanted [] values column one e all = absurd (cc)
each-wanted (None ∷ wanted) [] zero one e all = absurd (cc)
each-wanted (None ∷ wanted) (value ∷ values) zero one e all = absurd (cc)
each-wanted (Some other ∷ wanted) [] column one e all = absurd (cc)
each-wanted (Some other ∷ wanted) (value ∷ values) zero one e all =
    ap (λ v. same_value v value) (sym (same_Some other one e))
    ∙ (and_parts (same_value other value) (are_wanted wanted values) all).0
each-wanted (None ∷ wanted) [] (suc column) one e all = each-wanted wanted [] column one e all
each-wanted (None ∷ wanted) (value ∷ values) (suc column) one e all = each-wanted wanted values column one e all
each-wanted (Some other ∷ wanted) (value ∷ values) (suc column) one e all =
    each-wanted wanted values column one e (and_parts (same_value other value) (are_wanted wanted values) all).1

-- ---- one wanted value more

-- the same value is wanted again
pub wanted-again : (wanted : List (Option Value)) (values : List Value) (i : ℕ) (one other : Value)
    → get_or wanted i None ≡ Some one → same_value one other ≡ true
    → are_wanted wanted values
    ≡ (are_wanted wanted values && unwrap_or (option_map (same_value other) (slice_get values i)) false)
wanted-again wanted values i one other e same = by_test (are_wanted wanted values) refl where
  by_test : (b : Bool) → are_wanted wanted values ≡ b
      → b ≡ (b && unwrap_or (option_map (same_value other) (slice_get values i)) false)
  by_test false all = refl
  by_test true all =
      sym (ap (λ v. unwrap_or (option_map (same_value v) (slice_get values i)) false)
      (sym (same_value_is one other same)) ∙ each-wanted wanted values i one e all)

-- no row has two different values in one column
pub wanted-otherwise : (wanted : List (Option Value)) (values : List Value) (i : ℕ) (one other : Value)
    → get_or wanted i None ≡ Some one → same_value one other ≡ false
    → (are_wanted wanted values && unwrap_or (option_map (same_value other) (slice_get values i)) false) ≡ false
wanted-otherwise wanted values i one other e differs = by_test (are_wanted wanted values) refl where
  by_value : (o : Option Value) → unwrap_or (option_map (same_value one) o) false ≡ true
      → unwrap_or (option_map (same_value other) o) false ≡ false
  by_value None is = refl
  by_value (Some v) is = ap (same_value other) (sym (same_value_is one v is)) ∙ flips (same_value other one) refl
    where
      flips : (b : Bool) → same_value other one ≡ b → b ≡ false
      flips false e = refl
      flips true e = absurd (
          let both : other ≡ one = same_value_is other one e in
          let again : same_value one other ≡ true =
          ap (λ w. same_value w other) (sym both) ∙ ap (same_value other) both ∙ e in cc)

  by_test : (b : Bool) → are_wanted wanted values ≡ b
      → (b && unwrap_or (option_map (same_value other) (slice_get values i)) false) ≡ false
  by_test false all = refl
  by_test true all = by_value (slice_get values i) (each-wanted wanted values i one e all)

-- a wanted value for a column that had none
pub wanted-set : (wanted : List (Option Value)) (values : List Value) (i : ℕ) (one : Value) → i < length wanted
    → get_or wanted i None ≡ None
    → are_wanted (set wanted i (Some one)) values
    ≡ (are_wanted wanted values && unwrap_or (option_map (same_value one) (slice_get values i)) false)
wanted-set [] values i one inside e = absurd (omega arith)
wanted-set (Some w ∷ wanted) values zero one inside e = absurd (cc)
wanted-set (None ∷ wanted) [] zero one inside e = sym (and-false (are_wanted wanted []))
wanted-set (None ∷ wanted) (value ∷ values) zero one inside e =
    and_comm (same_value one value) (are_wanted wanted values)
wanted-set (None ∷ wanted) [] (suc i) one inside e = wanted-set wanted [] i one (omega arith) e
wanted-set (None ∷ wanted) (value ∷ values) (suc i) one inside e = wanted-set wanted values i one (omega arith) e
wanted-set (Some w ∷ wanted) [] (suc i) one inside e = refl
wanted-set (Some w ∷ wanted) (value ∷ values) (suc i) one inside e =
    ap (λ b. same_value w value && b) (wanted-set wanted values i one (omega arith) e)
    ∙ sym (and_assoc (same_value w value) (are_wanted wanted values)
    (unwrap_or (option_map (same_value one) (slice_get values i)) false))
