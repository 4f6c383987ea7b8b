-- A placer's invariant after one more item, and the numbers of a sorted list's items.
use Rattle.std.proofs.Common.{◌≡◌, ℕ, ◌+◌, ◌-◌, ◌<◌, ◌≤◌, List, [], ◌∷◌, ◌++◌, length, get_or, take, Option, Some, None, arith, refl, sym, ap, ◌∙◌, inl, inr, subst, length-append}
use Rattle.std.specs.Prelude.{All, IsPermutation, IsSorted, MatchOption}
use Rattle.std.specs.Option.{ForSome}
use Rattle.std.proofs.lemmas.Bool.{cases_lt}
use Rattle.std.proofs.lemmas.Option.{MatchOption-at_some}
use Rattle.std.proofs.lemmas.List.{take_all, take_more, length-take-le}
use Rattle.std.proofs.lemmas.List.Elements.{All-nil, All-push, All-weaker}
use Rattle.std.proofs.lemmas.List.Sorted.{IsPermutation-refl, length_permutation}
use Rattle.dip_core.specs.declared.item.Item.{Item}
use Rattle.dip_core.specs.Item.{IsBelow, HasDistinctIds, item_cmp, item_limit}
use Rattle.dip_core.specs.Division.{all_of, IsDip, IsLeastDivision, IsPlaced}
use Rattle.dip_core.specs.Placing.{added, IsPlaceFor}
use Rattle.dip_core.specs.Heap.{Endings, GetsEnd, HoldLastEnds, IsHeap, IsPlaceByEnds}
use Rattle.dip_core.specs.Invariants.{IsDivided, IsPlacing}
use Rattle.dip_core.specs.Numbers.{DivideByNumbers, parts_numbered}
use Rattle.dip_core.proofs.AddedLemmas.{length-all_of-added, length-le-all_of, length-added_joined, length-added_opened}
use Rattle.dip_core.proofs.DivisionLemmas.{HasDistinctIds-permutation, IsLeastDivision-from_placed, IsLeastDivision-permutation}
use Rattle.dip_core.proofs.NumbersLemmas.{added-numbered, added-numbered_new, length-numbered}
use Rattle.dip_core.proofs.SortedLemmas.{placed_more, sorted_step}
use Rattle.dip_core.proofs.StepLemmas.{ArePlaced-added, IsGreatest-added, none_placed, place-within}

-- ---- a placer's invariant

pub IsPlacing-added : (parts : List (List Item)) (old new : Endings) (last : Option Item) (len k : ℕ) (x : Item)
    → IsPlacing parts old last len → ForSome last (λ z. IsBelow x z → ⊥) → len < item_limit
    → IsPlaceFor parts x.period.from k → IsHeap new.ends → HoldLastEnds (added parts k x) new.ends
    → new.looks ≤ old.looks + 40 → IsPlacing (added parts k x) new (Some x) (len + 1)
IsPlacing-added parts old new last len k x was above room place heap held looks =
    let counted = was.counted in
    let few_looks = was.few_looks in
    record {
      are_placed = ArePlaced-added parts last k x was.are_placed was.greatest above place;
      ordered = heap;
      last_ends = held;
      greatest = IsGreatest-added parts last k x was.greatest above;
      counted = omega (arith, length-all_of-added parts k x, counted);
      small = omega (arith, room);
      few_looks = omega (arith, looks, few_looks);
    }

-- ---- numbers

-- the first `i` items have numbers, and the ends are the last ends of the parts with these numbers
pub record Numbering (sorted : List Item) (i : ℕ) (ns : List ℕ) (ends : Endings) : Type 0 where
  pub long : length ns ≡ i
  pub under : All (λ n. n < length ends.ends) ns
  pub together : IsPermutation (take i sorted) (all_of (parts_numbered (take i sorted) ns 0 (length ends.ends)))
  pub last : Option Item
  pub last_is : MatchOption last (i ≡ 0) (λ y. (0 < i) × (y ≡ get_or sorted (i - 1) y))
  pub placing : IsPlacing (parts_numbered (take i sorted) ns 0 (length ends.ends)) ends last i

-- each part has an item
pub numbering-few : (sorted : List Item) (i : ℕ) (ns : List ℕ) (ends : Endings) → Numbering sorted i ns ends
    → length ends.ends ≤ i
numbering-few sorted i ns ends was =
    let parts = parts_numbered (take i sorted) ns 0 (length ends.ends) in
    let few = length-le-all_of parts was.placing.are_placed.filled in
    let counted = was.placing.counted in
    omega (arith, few, counted, length-numbered (take i sorted) ns 0 (length ends.ends))

-- the number is that of a part, or of a new one
pub numbering-within : (sorted : List Item) (i : ℕ) (ns : List ℕ) (ends : Endings) (x : Item) (k : ℕ)
    → Numbering sorted i ns ends → IsPlaceByEnds ends.ends x.period.from k → k ≤ length ends.ends
numbering-within sorted i ns ends x k was place =
    let parts = parts_numbered (take i sorted) ns 0 (length ends.ends) in
    let within = place-within parts x.period.from k (place parts was.placing.last_ends) in
    omega (arith, within, length-numbered (take i sorted) ns 0 (length ends.ends))

-- the parts with the new item are those with its number
grown : (xs : List Item) (ns : List ℕ) (x : Item) (k count more : ℕ) → length ns ≡ length xs
    → All (λ n. n < count) ns → k ≤ count → more ≡ length (added (parts_numbered xs ns 0 count) k x)
    → (added (parts_numbered xs ns 0 count) k x ≡ parts_numbered (xs ++ x ∷ []) (ns ++ k ∷ []) 0 more)
    × (k < more) × (count ≤ more)
grown xs ns x k count more long under within is = elim (cases_lt k count) [
  | inl less ↦
      let same : more ≡ count =
      is ∙ length-added_joined (parts_numbered xs ns 0 count) k x (omega (arith, less, length-numbered xs ns 0 count))
      ∙ length-numbered xs ns 0 count in (
        added-numbered xs ns x k count long less
            ∙ ap (parts_numbered (xs ++ x ∷ []) (ns ++ k ∷ []) 0) (sym same),
        omega (arith, less, same),
        omega (arith, same),
      )
  | inr past ↦
      let last : k ≡ count = omega (arith, past, within) in
      let parts_last : k ≡ length (parts_numbered xs ns 0 count) = last ∙ sym (length-numbered xs ns 0 count) in
      let same : more ≡ count + 1 =
      is ∙ ap (λ n. length (added (parts_numbered xs ns 0 count) n x)) parts_last
      ∙ length-added_opened (parts_numbered xs ns 0 count) x
      ∙ ap (λ n. n + 1) (length-numbered xs ns 0 count) in (
        subst (λ n. added (parts_numbered xs ns 0 count) n x ≡ parts_numbered (xs ++ x ∷ []) (ns ++ n ∷ []) 0 more)
            (sym last)
            (added-numbered_new xs ns x count long under
            ∙ ap (parts_numbered (xs ++ x ∷ []) (ns ++ count ∷ []) 0) (sym same)),
        omega (arith, last, same),
        omega (arith, same),
      )
]

pub numbering-start : (sorted : List Item) (ends : Endings) → ends ≡ record { ends = []; looks = 0; all_looks = 0 }
    → Numbering sorted 0 [] ends
numbering-start sorted ends is =
    subst (λ e. Numbering sorted 0 [] e) (sym is)
    (record {
      long = refl;
      under = All-nil (λ n. n < 0);
      together = IsPermutation-refl [];
      last = None;
      last_is = refl;
      placing = record {
        are_placed = none_placed;
        ordered = λ p k d low high within. absurd (omega arith);
        last_ends = record {
          long = refl;
          right = λ k d within. absurd (omega arith);
          each = λ k within. absurd (omega arith);
        };
        greatest = refl;
        counted = refl;
        small = omega arith;
        few_looks = omega arith;
      };
    })

pub numbering-step : (sorted : List Item) (i : ℕ) (ns : List ℕ) (old new : Endings) (x : Item) (k : ℕ)
    → IsSorted item_cmp sorted → length sorted ≤ item_limit → i < length sorted → x ≡ get_or sorted i x
    → Numbering sorted i ns old → IsPlaceByEnds old.ends x.period.from k → IsHeap new.ends
    → GetsEnd old.ends new.ends k x.period.to → new.looks ≤ old.looks + 40
    → Numbering sorted (i + 1) (ns ++ k ∷ []) new
numbering-step sorted i ns old new x k rises few within here was place heap gets looks =
    let xs : List Item = take i sorted in
    let parts : List (List Item) = parts_numbered xs ns 0 (length old.ends) in
    let count : length xs ≡ i = length-take-le i sorted (omega (arith, within)) in
    let held : HoldLastEnds (added parts k x) new.ends = gets parts x refl was.placing.last_ends in
    let more = grown xs ns x k (length old.ends) (length new.ends) (was.long ∙ sym count) was.under
    (numbering-within sorted i ns old x k was place) held.long in
    let longer : take (i + 1) sorted ≡ xs ++ x ∷ [] =
    take_more sorted i x within ∙ ap (λ y. take i sorted ++ y ∷ []) (sym here) in
    let is : added parts k x ≡ parts_numbered (take (i + 1) sorted) (ns ++ k ∷ []) 0 (length new.ends) =
    more.0 ∙ ap (λ ys. parts_numbered ys (ns ++ k ∷ []) 0 (length new.ends)) (sym longer) in
    let above : ForSome was.last (λ z. IsBelow x z → ⊥) = λ y same.
    let last = MatchOption-at_some _ _ y same was.last_is in
    sorted_step sorted i x y rises last.0 within here last.1 in
    let back : i ≡ i + 1 - 1 = omega arith in
    record {
      long = numbers_long was.long;
      under = All-push (λ n. n < length new.ends) ns k
          (All-weaker (λ n. n < length old.ends) (λ n. n < length new.ends) (λ n less. omega (arith, less, more.2)) ns
          was.under)
          more.1;
      together = subst (λ ps. IsPermutation (take (i + 1) sorted) (all_of ps)) is
          (placed_more sorted i x parts k within here was.together);
      last = Some x;
      last_is = (omega arith, subst (λ n. x ≡ get_or sorted n x) back here);
      placing = subst (λ ps. IsPlacing ps new (Some x) (i + 1)) is
          (IsPlacing-added parts old new was.last i k x was.placing above (omega (arith, within, few))
          (place parts was.placing.last_ends) heap held looks);
    }
  where
    numbers_long : length ns ≡ i → length (ns ++ k ∷ []) ≡ i + 1
    numbers_long e = length-append ns (k ∷ []) ∙ ap (λ n. n + 1) e

pub numbering-all : (sorted : List Item) (i : ℕ) (ns : List ℕ) (ends : Endings) → length sorted ≤ i
    → Numbering sorted i ns ends → DivideByNumbers sorted ns (length ends.ends)
numbering-all sorted i ns ends all was =
    let whole : take i sorted ≡ sorted = take_all i sorted all in
    let counted = was.placing.counted in
    let small = was.placing.small in
    record {
      long = was.long ∙ numbers_all;
      under = was.under;
      together = subst (λ xs. IsPermutation xs (all_of (parts_numbered xs ns 0 (length ends.ends)))) whole was.together;
      divided = subst (λ xs. IsDivided (parts_numbered xs ns 0 (length ends.ends))) whole
          (record { are_placed = was.placing.are_placed; small = omega (arith, counted, small) });
    }
  where
    numbers_all : i ≡ length sorted
    numbers_all =
        let counted = was.placing.counted in
        let same = length_permutation (take i sorted)
        (all_of (parts_numbered (take i sorted) ns 0 (length ends.ends))) was.together in
        let whole : length (take i sorted) ≡ length sorted = ap length (take_all i sorted all) in
        omega (arith, counted, same, whole)

-- ---- the division by numbers

pub least-by_numbers : (xs : List Item) (ns : List ℕ) (count : ℕ) (division : List (List Item))
    → DivideByNumbers xs ns count → division ≡ parts_numbered xs ns 0 count → IsLeastDivision xs division
least-by_numbers xs ns count division by is =
    let parts : List (List Item) = parts_numbered xs ns 0 count in
    subst (IsLeastDivision xs) (sym is)
    (IsLeastDivision-permutation xs (all_of parts) parts by.together
    (IsLeastDivision-from_placed parts by.divided.are_placed))

pub dip-by_numbers : (xs : List Item) (ns : List ℕ) (count : ℕ) (division : List (List Item))
    → DivideByNumbers xs ns count → division ≡ parts_numbered xs ns 0 count → HasDistinctIds xs → IsDip xs division
dip-by_numbers xs ns count division by is distinct =
    let parts : List (List Item) = parts_numbered xs ns 0 count in
    record {
      divided = least-by_numbers xs ns count division by is;
      placed = subst IsPlaced (sym is)
          (by.divided.are_placed.placed (HasDistinctIds-permutation xs (all_of parts) by.together distinct));
    }
