-- Lists of steps with the tallies of each class's items.
use Rattle.std.proofs.Common.{◌≡◌, ◌+◌, ◌<◌, ◌≤◌, ℕ, suc, cond, None, List, [], ◌∷◌, ◌++◌, length, take, drop, All, AllPairs, inl, inr, refl, sym, subst, ap, ◌∙◌, arith, append_assoc, length-append}
use Rattle.std.specs.Prelude.{ℤ, ◌==◌, Contains, IsPermutation, nat_eq}
use Rattle.std.proofs.lemmas.Bool.{cases_eq, eq-eqb, ne_eqb}
use Rattle.std.proofs.lemmas.List.{take-append-drop}
use Rattle.std.proofs.lemmas.List.Elements.{All-head, All-tail, filter-append, Contains-append_left, Contains-append_right}
use Rattle.std.proofs.lemmas.List.Sorted.{length_permutation}
use Rattle.dip_core.specs.declared.item.Item.{Item}
use Rattle.dip_core.specs.Division.{all_of, part_at}
use Rattle.list_core.proofs.RisingLemmas.{AllPairs-head, AllPairs-tail, Contains-head}
use Rattle.dip_core.proofs.PartedLemmas.{all_of-more}
use Rattle.merge_core.specs.Tallies.{IsTallyAt, both}
use Rattle.merge_core.specs.Steps.{tally_at}
use Rattle.merge_core.proofs.TallyLemmas.{IsTallyAt-append}
use Rattle.round_core.specs.declared.class_steps.ClassSteps.{ClassSteps}
use Rattle.round_core.specs.Plateaus.{of_class}
use Rattle.round_core.specs.ClassLists.{tally_for, class_at, weight_of, RisesFrom, StandForAll, AreOf, AddsSteps, HasItem, AreOfItems}
use Rattle.round_core.proofs.RoundLemmas.{both-assoc}
use Rattle.round_core.proofs.PermutedLemmas.{IsTallyAt-permuted}

-- ---- two lists together

pub class_at-append : (class : ℕ) (xs ys : List ClassSteps) (t : ℤ)
    → class_at class (xs ++ ys) t ≡ both (class_at class xs t) (class_at class ys t)
class_at-append class [] ys t = refl
class_at-append class (x ∷ xs) ys t =
    ap (both (tally_for class x t)) (class_at-append class xs ys t)
    ∙ sym (both-assoc (tally_for class x t) (class_at class xs t) (class_at class ys t))

weight_of-append : (xs ys : List ClassSteps) → weight_of (xs ++ ys) ≡ weight_of xs + weight_of ys
weight_of-append [] ys = omega arith
weight_of-append (x ∷ xs) ys = let e = weight_of-append xs ys in omega (arith, e)

AreOf-append : (class : ℕ) (xs ys : List ClassSteps) → AreOf class xs → AreOf class ys → AreOf class (xs ++ ys)
AreOf-append class [] ys a b = b
AreOf-append class (x ∷ xs) ys a b = (a.0, AreOf-append class xs ys a.1 b)

-- ---- added steps

-- the steps of more items of the class
adds_more : (class : ℕ) (xs ys : List Item) (old mid new : List ClassSteps) → AddsSteps class xs old mid
    → AddsSteps class ys mid new → AddsSteps class (xs ++ ys) old new
adds_more class xs ys old mid new a b =
    record {
      added = a.added ++ b.added;
      split = b.split ∙ ap (λ z. z ++ b.added) a.split ∙ append_assoc old a.added b.added;
      own = AreOf-append class a.added b.added a.own b.own;
      tallies = λ t.
          subst (IsTallyAt (xs ++ ys) t) (sym (class_at-append class a.added b.added t))
          (IsTallyAt-append xs ys t (class_at class a.added t) (class_at class b.added t) (a.tallies t) (b.tallies t));
      weight = (
          let w = weight_of-append a.added b.added in let l = length-append xs ys in
          let u = a.weight in let v = b.weight in omega (arith, w, l, u, v));
      few = (
          let w = length-append a.added b.added in let l = length-append xs ys in
          let u = a.few in let v = b.few in omega (arith, w, l, u, v));
    }

-- the same for permuted items
pub adds_permuted : (class : ℕ) (xs ys : List Item) (old new : List ClassSteps) → IsPermutation xs ys
    → AddsSteps class xs old new → AddsSteps class ys old new
adds_permuted class xs ys old new p a =
    record {
      added = a.added;
      split = a.split;
      own = a.own;
      tallies = λ t. IsTallyAt-permuted xs ys t (class_at class a.added t) p (a.tallies t);
      weight = a.weight ∙ sym (length_permutation xs ys p);
      few = (let l = length_permutation xs ys p in let f = a.few in omega (arith, l, f));
    }

-- ---- items of one class

-- All items are of the class.
abbrev pub HaveClass : ℕ → List Item → Type 0
HaveClass class [] = Unit {0}
HaveClass class (x ∷ xs) = (x.class ≡ class) × HaveClass class xs

pub have_class : (class : ℕ) (xs : List Item) → All (λ (x : Item). x.class ≡ class) xs → HaveClass class xs
have_class class [] all = tt
have_class class (x ∷ xs) all =
    let P : Item → Type 0 = λ v. v.class ≡ class in
    (All-head P x xs all, have_class class xs (All-tail P x xs all))

all_of_class : (class : ℕ) (xs : List Item) → HaveClass class xs → of_class class xs ≡ xs
all_of_class class [] h = refl
all_of_class class (x ∷ xs) h =
    ap (λ b. cond b (x ∷ of_class class xs) (of_class class xs))
    (ap (λ n. nat_eq n class) h.0 ∙ eq-eqb class class refl)
    ∙ ap (λ z. x ∷ z) (all_of_class class xs h.1)

none_of_class : (class other : ℕ) (xs : List Item) → (class ≡ other → ⊥) → HaveClass class xs → of_class other xs ≡ []
none_of_class class other [] ne h = refl
none_of_class class other (x ∷ xs) ne h =
    ap (λ b. cond b (x ∷ of_class other xs) (of_class other xs))
    (ap (λ n. nat_eq n other) h.0 ∙ ne_eqb class other ne)
    ∙ none_of_class class other xs ne h.1

none_at_other : (class other : ℕ) (ls : List ClassSteps) (t : ℤ) → (class ≡ other → ⊥) → AreOf class ls
    → class_at other ls t ≡ None
none_at_other class other [] t ne h = refl
none_at_other class other (l ∷ ls) t ne h =
    ap (λ b. both (cond b (tally_at l.steps.steps t) None) (class_at other ls t))
    (ap (λ n. nat_eq n other) h.0 ∙ ne_eqb class other ne)
    ∙ none_at_other class other ls t ne h.1

-- the steps of one class's items have the right tally for every class
stand_of_class : (class : ℕ) (xs : List Item) (old new : List ClassSteps) → HaveClass class xs
    → (a : AddsSteps class xs old new) → StandForAll xs a.added
stand_of_class class xs old new h a =
    record {
      tallies = λ other t. elim (cases_eq class other) [
        | inl same ↦
            subst (λ k. IsTallyAt (of_class k xs) t (class_at k a.added t)) same
            (subst (λ z. IsTallyAt z t (class_at class a.added t)) (sym (all_of_class class xs h)) (a.tallies t))
        | inr ne ↦
            subst (λ z. IsTallyAt z t (class_at other a.added t)) (sym (none_of_class class other xs ne h))
            (subst (IsTallyAt [] t) (sym (none_at_other class other a.added t ne a.own)) refl)
      ];
      weight = a.weight;
      few = a.few;
    }

pub stand_more : (xs ys : List Item) (ls ms : List ClassSteps) → StandForAll xs ls → StandForAll ys ms
    → StandForAll (xs ++ ys) (ls ++ ms)
stand_more xs ys ls ms a b =
    record {
      tallies = λ class t.
          subst (λ z. IsTallyAt z t (class_at class (ls ++ ms) t))
          (sym (filter-append (λ (x : Item). x.class == class) xs ys))
          (subst (IsTallyAt (of_class class xs ++ of_class class ys) t) (sym (class_at-append class ls ms t))
          (IsTallyAt-append (of_class class xs) (of_class class ys) t (class_at class ls t) (class_at class ms t)
          (a.tallies class t) (b.tallies class t)));
      weight = (
          let w = weight_of-append ls ms in let l = length-append xs ys in
          let u = a.weight in let v = b.weight in omega (arith, w, l, u, v));
      few = (
          let w = length-append ls ms in let l = length-append xs ys in
          let u = a.few in let v = b.few in omega (arith, w, l, u, v));
    }

-- ---- the classes of items

HasItem-early : (xs ys : List Item) (class : ℕ) → HasItem xs class → HasItem (xs ++ ys) class
HasItem-early xs ys class h = record {
  item = h.item;
  item_in = Contains-append_left xs ys h.item h.item_in;
  class_is = h.class_is;
}

HasItem-late : (xs ys : List Item) (class : ℕ) → HasItem ys class → HasItem (xs ++ ys) class
HasItem-late xs ys class h = record {
  item = h.item;
  item_in = Contains-append_right xs ys h.item h.item_in;
  class_is = h.class_is;
}

-- lists of the classes of two lists of items
pub of_items_more : (xs ys : List Item) (ls ms : List ClassSteps) → AreOfItems xs ls → AreOfItems ys ms
    → AreOfItems (xs ++ ys) (ls ++ ms)
of_items_more xs ys [] [] a b = tt
of_items_more xs ys [] (m ∷ ms) a b = (HasItem-late xs ys m.class b.0, of_items_more xs ys [] ms a b.1)
of_items_more xs ys (l ∷ ls) ms a b = (HasItem-early xs ys l.class a.0, of_items_more xs ys ls ms a.1 b)

-- lists of the first item's class
of_first : (first : Item) (run : List Item) (ls : List ClassSteps) → AreOf first.class ls
    → AreOfItems (first ∷ run) ls
of_first first run [] own = tt
of_first first run (l ∷ ls) own = (
  record { item = first; item_in = Contains-head first run; class_is = sym own.0 },
  of_first first run ls own.1,
)

-- ---- in order

-- No list is of a higher class.
abbrev pub UpTo : ℕ → List ClassSteps → Type 0
UpTo class [] = Unit {0}
UpTo class (l ∷ ls) = (l.class ≤ class) × UpTo class ls

UpTo-append : (class : ℕ) (xs ys : List ClassSteps) → UpTo class xs → UpTo class ys → UpTo class (xs ++ ys)
UpTo-append class [] ys a b = b
UpTo-append class (x ∷ xs) ys a b = (a.0, UpTo-append class xs ys a.1 b)

own_up_to : (class above : ℕ) (ls : List ClassSteps) → class ≤ above → AreOf class ls → UpTo above ls
own_up_to class above [] h a = tt
own_up_to class above (l ∷ ls) h a = (omega (arith, h, a.0), own_up_to class above ls h a.1)

own_rise : (least class : ℕ) (ls : List ClassSteps) → least ≤ class → AreOf class ls → RisesFrom least ls
own_rise least class [] h a = tt
own_rise least class (l ∷ ls) h a = (omega (arith, h, a.0), own_rise l.class class ls (omega (arith, a.0)) a.1)

rise_more : (least class : ℕ) (xs ys : List ClassSteps) → least ≤ class → UpTo class xs → AreOf class ys
    → RisesFrom least xs → RisesFrom least (xs ++ ys)
rise_more least class [] ys h u a r = own_rise least class ys h a
rise_more least class (x ∷ xs) ys h u a r = (r.0, rise_more x.class class xs ys u.0 u.1 a r.1)

-- ---- class by class

-- The lists have the tallies of the items before the remaining ones, and their classes are no higher than the
-- remaining items' classes.
pub record IsListing (all left : List Item) (lists : List ClassSteps) : Type 0 where
  pub gone : List Item
  pub split : all ≡ gone ++ left
  pub stand : StandForAll gone lists
  pub rises : RisesFrom 0 lists
  pub classes : AreOfItems gone lists
  pub below : (x : Item) → Contains left x → UpTo x.class lists
  pub grouped : AllPairs (λ (a b : Item). a.class ≤ b.class) left

pub AllPairs-behind : (xs ys : List Item) → AllPairs (λ (a b : Item). a.class ≤ b.class) (xs ++ ys)
    → AllPairs (λ (a b : Item). a.class ≤ b.class) ys
AllPairs-behind [] ys h = h
AllPairs-behind (z ∷ xs) ys h =
    AllPairs-behind xs ys (AllPairs-tail (λ (a b : Item). a.class ≤ b.class) z (xs ++ ys) h)

-- one class's items are added
listing_run : (all left rest : List Item) (first : Item) (run : List Item) (lists lists' : List ClassSteps)
    → left ≡ (first ∷ run) ++ rest → HaveClass first.class (first ∷ run)
    → AddsSteps first.class (first ∷ run) lists lists' → IsListing all left lists → IsListing all rest lists'
listing_run all left rest first run lists lists' e own adds was =
    let grouped : AllPairs (λ (a b : Item). a.class ≤ b.class) (first ∷ (run ++ rest)) =
    subst (AllPairs (λ (a b : Item). a.class ≤ b.class)) e was.grouped in
    let below : (x : Item) → Contains rest x → first.class ≤ x.class =
    λ x h. AllPairs-head (λ (a b : Item). a.class ≤ b.class) first (run ++ rest) x grouped
    (Contains-append_right run rest x h) in
    let before : UpTo first.class lists =
    was.below first (subst (λ z. Contains z first) (sym e) (Contains-head first (run ++ rest))) in
    record {
      gone = was.gone ++ first ∷ run;
      split =
          was.split ∙ ap (λ z. was.gone ++ z) e ∙ sym (append_assoc was.gone (first ∷ run) rest);
      stand =
          subst (StandForAll (was.gone ++ first ∷ run)) (sym adds.split)
          (stand_more was.gone (first ∷ run) lists adds.added was.stand
          (stand_of_class first.class (first ∷ run) lists lists' own adds));
      rises =
          subst (RisesFrom 0) (sym adds.split)
          (rise_more 0 first.class lists adds.added (omega arith) before adds.own was.rises);
      classes =
          subst (AreOfItems (was.gone ++ first ∷ run)) (sym adds.split)
          (of_items_more was.gone (first ∷ run) lists adds.added was.classes
          (of_first first run adds.added adds.own));
      below = λ x h.
          subst (UpTo x.class) (sym adds.split)
          (UpTo-append x.class lists adds.added
          (was.below x (subst (λ z. Contains z x) (sym e) (Contains-append_right (first ∷ run) rest x h)))
          (own_up_to first.class x.class adds.added (below x h) adds.own));
      grouped = AllPairs-behind (first ∷ run) rest grouped;
    }

-- the same if their number is known
pub listing_more : (all left behind run rest : List Item) (first : Item) (n : ℕ) (lists lists' : List ClassSteps)
    → left ≡ first ∷ behind → run ≡ take (1 + n) left → rest ≡ drop (1 + n) left
    → All (λ (x : Item). x.class ≡ first.class) (take n behind) → AddsSteps first.class run lists lists'
    → IsListing all left lists → IsListing all rest lists'
listing_more all left behind run rest first n lists lists' e f g own adds was =
    let next : 1 + n ≡ suc n = omega arith in
    let f' : run ≡ first ∷ take n behind =
    f ∙ ap (λ k. take k left) next ∙ ap (λ z. take (suc n) z) e in
    let g' : rest ≡ drop n behind = g ∙ ap (λ k. drop k left) next ∙ ap (λ z. drop (suc n) z) e in
    let whole : left ≡ (first ∷ take n behind) ++ rest =
    e ∙ ap (λ z. first ∷ z) (sym (take-append-drop n behind)) ∙ ap (λ z. first ∷ (take n behind ++ z)) (sym g') in
    listing_run all left rest first (take n behind) lists lists' whole
    (refl, have_class first.class (take n behind) own)
    (subst (λ z. AddsSteps first.class z lists lists') f' adds) was

-- ---- part by part

-- the steps of one more part
pub adds_next_part : (class i : ℕ) (parts : List (List Item)) (old mid new : List ClassSteps) → i < length parts
    → AddsSteps class (part_at parts i) mid new → AddsSteps class (all_of (take i parts)) old mid
    → AddsSteps class (all_of (take (i + 1) parts)) old new
adds_next_part class i parts old mid new small a so_far =
    subst (λ z. AddsSteps class z old new)
    (sym (all_of-more parts i small))
    (adds_more class (all_of (take i parts)) (part_at parts i) old mid new so_far a)
