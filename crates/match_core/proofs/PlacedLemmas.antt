-- Rows as items by their indices, in any order of the indices.
use Rattle.std.proofs.Common.{◌≡◌, ◌<◌, ◌≤◌, Bool, true, false, ℕ, zero, suc, ◌+◌, List, [], ◌∷◌, ◌++◌, length, map, set, take, get_or, Option, Some, None, unwrap_or, option_map, refl, sym, subst, ap, ◌∙◌, append-nil, arith}
use Rattle.std.specs.Prelude.{All, IsPermutation, IsTrue, slice_get}
use Rattle.std.specs.Global.{Vec}
use Rattle.std.specs.List.{IsAllAdjacentAnswer}
use Rattle.std.specs.Ordering.{is_le, nat_cmp, partial_le}
use Rattle.std.specs.List.Sorted.{IsNonDecreasingBy}
use Rattle.std.proofs.lemmas.List.{get_or-map, length-map, map-append, map_more, take_all, take_more_set}
use Rattle.std.proofs.lemmas.List.Elements.{All-cons}
use Rattle.std.proofs.lemmas.Bool.Decides.{nat_tests}
use Rattle.std.proofs.lemmas.List.Sorted.{All-permutation, IsNonDecreasingBy-from_all_adjacent, IsPermutation-map, IsPermutation-refl, length_permutation}
use Rattle.list_core.specs.Chunks.{all_in}
use Rattle.work_core.specs.Pieces.{items_within}
use Rattle.work_core.specs.Ranges.{range}
use Rattle.work_core.specs.Shares.{GivesFrom}
use Rattle.work_core.specs.declared.range.Range.{Range}
use Rattle.work_core.specs.declared.shares.Cut.{Cut}
use Rattle.work_core.proofs.PieceLemmas.{piece_cut}
use Rattle.work_core.proofs.ShareLemmas.{all_come}
use Rattle.row_core.specs.declared.row.Row.{Row}
use Rattle.dip_core.specs.declared.item.Item.{Item}
use Rattle.match_core.specs.declared.row_items.ClassedPlace.{ClassedPlace}
use Rattle.match_core.specs.ClassedPlaces.{AreByClass, classed_by, item_placed, numbered_by, placed_from}
use Rattle.match_core.specs.Items.{AreItemsByClass, item_with, items_with}

-- one number is at most another one if the test says so
le_from_test : (m n : ℕ) → is_le (nat_cmp m n) ≡ true → m ≤ n
le_from_test m n is = grind (arith, nat_tests, is)

-- the test of neighbours decides whether indices are in order of class
pub rise-from_test : (places : List ClassedPlace) (test : Bool)
    → IsAllAdjacentAnswer (λ (x y : ClassedPlace) (b : Bool).
    b ≡ partial_le (λ (m n : ℕ). Some (nat_cmp m n)) x.class y.class) places test
    → IsTrue test → IsNonDecreasingBy (λ (at : ClassedPlace). at.class) places
rise-from_test places true answer is =
    IsNonDecreasingBy-from_all_adjacent (λ (at : ClassedPlace). at.class) places
    (λ k d h. le_from_test (get_or places k d).class (get_or places (k + 1) d).class (sym (answer k d h)))
rise-from_test places false answer is = absurd (cc)

-- one more index
pub placed_from-more : (place : ℕ) (classes : List ℕ) (i at : ℕ) → i < length classes → at ≡ place + i
    → placed_from place (take i classes) ++ record { class = get_or classes i 0; place = at } ∷ []
    ≡ placed_from place (take (i + 1) classes)
placed_from-more place [] i at inside is = absurd (omega arith)
placed_from-more place (c ∷ classes) zero at inside is =
    let e : at ≡ place = omega (arith, is) in ap (λ (n : ℕ). record { class = c; place = n } ∷ []) e
placed_from-more place (c ∷ classes) (suc i) at inside is =
    let e : suc (i + 1) ≡ suc i + 1 = omega arith in
    ap (λ l. record { class = c; place = place } ∷ l)
    (placed_from-more (suc place) classes i at (omega (arith, inside)) (omega (arith, is)))
    ∙ ap (λ n. placed_from place (take n (c ∷ classes))) e

-- each index is below `count`
pub placed_from-within : (place : ℕ) (classes : List ℕ) (count : ℕ) → place + length classes ≤ count
    → All (λ (at : ClassedPlace). at.place < count) (placed_from place classes)
placed_from-within place [] count within = λ i d h. absurd (omega arith)
placed_from-within place (c ∷ classes) count within =
    All-cons (λ (at : ClassedPlace). at.place < count) (record { class = c; place = place })
    (placed_from (suc place) classes) (omega (arith, within))
    (placed_from-within (suc place) classes count (omega (arith, within)))

-- each class is below `count` if the given classes are
pub placed_from-below : (place : ℕ) (classes : List ℕ) (count : ℕ) → All (λ class. class < count) classes
    → All (λ (at : ClassedPlace). at.class < count) (placed_from place classes)
placed_from-below place [] count below = λ i d h. absurd (omega arith)
placed_from-below place (c ∷ classes) count below =
    All-cons (λ (at : ClassedPlace). at.class < count) (record { class = c; place = place })
    (placed_from (suc place) classes) (below 0 0 (omega arith))
    (placed_from-below (suc place) classes count (λ i d h. below (suc i) d (omega (arith, h))))

-- the same indices with other classes
classed-from : (all : List ℕ) (place : ℕ) (old classes : List ℕ) → length classes ≡ length old
    → ((i at : ℕ) → i < length old → at ≡ place + i → get_or all at 0 ≡ get_or classes i 0)
    → map (classed_by all) (placed_from place old) ≡ placed_from place classes
classed-from all place [] [] count each = refl
classed-from all place [] (c ∷ classes) count each = absurd (omega (arith, count))
classed-from all place (o ∷ old) [] count each = absurd (omega (arith, count))
classed-from all place (o ∷ old) (c ∷ classes) count each =
    let first : get_or all place 0 ≡ c = each 0 place (omega arith) (omega arith) in
    ap (λ (n : ℕ). record { class = n; place = place } ∷ map (classed_by all) (placed_from (suc place) old)) first
    ∙ ap (λ l. record { class = c; place = place } ∷ l)
    (classed-from all (suc place) old classes (omega (arith, count))
    (λ i at h e. each (suc i) at (omega (arith, h)) (omega (arith, e))))

pub placed_from-classed : (old classes : List ℕ) → length classes ≡ length old
    → map (classed_by classes) (placed_from 0 old) ≡ placed_from 0 classes
placed_from-classed old classes count =
    classed-from classes 0 old classes count
    (λ i at h e. let same : at ≡ i = omega (arith, e) in ap (λ n. get_or classes n 0) same)

-- the same indices with the numbers of their classes
pub placed_from-numbered : (numbers : List ℕ) (place : ℕ) (old classes : List ℕ) → length classes ≡ length old
    → ((i : ℕ) → i < length old → get_or classes i 0 ≡ get_or numbers (get_or old i 0) 0)
    → map (numbered_by numbers) (placed_from place old) ≡ placed_from place classes
placed_from-numbered numbers place [] [] count each = refl
placed_from-numbered numbers place [] (c ∷ classes) count each = absurd (omega (arith, count))
placed_from-numbered numbers place (o ∷ old) [] count each = absurd (omega (arith, count))
placed_from-numbered numbers place (o ∷ old) (c ∷ classes) count each =
    let first : c ≡ get_or numbers o 0 = each 0 (omega arith) in
    ap (λ (n : ℕ). record { class = n; place = place } ∷ map (numbered_by numbers) (placed_from (suc place) old))
    (sym first)
    ∙ ap (λ l. record { class = c; place = place } ∷ l)
    (placed_from-numbered numbers (suc place) old classes (omega (arith, count))
    (λ i h. each (suc i) (omega (arith, h))))

-- one more index with the number of its class, written in place
pub numbered-more : (numbers : List ℕ) (old places : List ClassedPlace) (i : ℕ) (d : ClassedPlace)
    → length places ≡ length old → i < length old → get_or places i d ≡ get_or old i d
    → take i places ≡ map (numbered_by numbers) (take i old)
    → take (i + 1) (set places i (numbered_by numbers (get_or places i d)))
    ≡ map (numbered_by numbers) (take (i + 1) old)
numbered-more numbers old places i d long inside same done =
    let number = numbered_by numbers in
    take_more_set places i (number (get_or places i d)) (omega (arith, long, inside))
    ∙ ap (λ (l : List ClassedPlace). l ++ number (get_or places i d) ∷ []) done
    ∙ ap (λ (at : ClassedPlace). map number (take i old) ++ number at ∷ []) same
    ∙ sym (map_more number old i d inside)

-- the indices after the first belong to the rows after the first
placed_behind : (r : Row) (rows : List Row) (place : ℕ) (classes : List ℕ)
    → map (item_placed (r ∷ rows)) (placed_from (suc place) classes)
    ≡ map (item_placed rows) (placed_from place classes)
placed_behind r rows place [] = refl
placed_behind r rows place (c ∷ classes) =
    ap (λ l. item_placed rows (record { class = c; place = place }) ∷ l) (placed_behind r rows (suc place) classes)

-- the items at the indices in order are the rows' items
pub placed-in_order : (rows : List Row) (classes : List ℕ) → length rows ≤ length classes
    → map (item_placed rows) (placed_from 0 (take (length rows) classes)) ≡ map Some (items_with rows classes)
placed-in_order [] classes enough = refl
placed-in_order (r ∷ rows) [] enough = absurd (omega arith)
placed-in_order (r ∷ rows) (c ∷ classes) enough =
    ap (λ l. Some (item_with r c) ∷ l)
    (placed_behind r rows 0 (take (length rows) classes) ∙ placed-in_order rows classes (omega (arith, enough)))

-- one more row as an item, at one more index
pub item_placed-more : (rows : List Row) (places : List ClassedPlace) (i : ℕ) (at : ClassedPlace) (row : Row) (x : Item)
    → i < length places → slice_get rows (get_or places i at).place ≡ Some row
    → x ≡ item_with row (get_or places i at).class
    → map (item_placed rows) (take i places) ++ Some x ∷ [] ≡ map (item_placed rows) (take (i + 1) places)
item_placed-more rows places i at row x inside here is =
    let p = get_or places i at in
    ap (λ (y : Item). map (item_placed rows) (take i places) ++ Some y ∷ []) is
    ∙ ap (λ (o : Option Row). map (item_placed rows) (take i places)
    ++ option_map (λ (r : Row). item_with r p.class) o ∷ []) (sym here)
    ∙ sym (map_more (item_placed rows) places i at inside)

-- the items at a range of indices
abbrev GivenItems : List Row → List ClassedPlace → Range ℕ → Vec Item → Type 0
GivenItems rows places part items =
    ℕ × (Range ℕ × (map Some items.items ≡ map (item_placed rows) (items_within part places)))

-- the items at all ranges of indices together are the items at all indices
pub placed-pieces : (rows : List Row) (places : List ClassedPlace) (cuts : List (Cut ℕ)) (lists : List (Vec Item))
    → GivesFrom nat_cmp (GivenItems rows places) None cuts lists
    → map Some (all_in lists) ≡ map (item_placed rows) places
placed-pieces rows places cuts lists given =
    all_come nat_cmp (GivenItems rows places)
    (λ (part : Range ℕ) (ls : List (Vec Item)). map Some (all_in ls) ≡ map (item_placed rows) (items_within part places))
    (λ part items one. ap (map Some) (append-nil items.items) ∙ one.1.1)
    (λ from at items ls begun one rest.
    (let front = items_within (range from (Some at)) places in
    let back = items_within (range (Some at) None) places in
    map-append Some items.items (all_in ls)
    ∙ ap (λ l. l ++ map Some (all_in ls)) one.1.1
    ∙ ap (λ l. map (item_placed rows) front ++ l) rest
    ∙ sym (map-append (item_placed rows) front back)
    ∙ ap (map (item_placed rows)) (sym (piece_cut from at places begun))))
    None cuts lists given

-- unwrapping a list of `Some`
there : {X : Type 0} (d : X) (xs : List X) → map (λ o. unwrap_or o d) (map Some xs) ≡ xs
there d [] = refl
there d (x ∷ xs) = ap (λ l. x ∷ l) (there d xs)

-- two lists are permutations of each other if their lists of `Some` are
IsPermutation-from_options : {X : Type 0} (xs ys : List X) → IsPermutation (map Some xs) (map Some ys)
    → IsPermutation xs ys
IsPermutation-from_options [] [] same = IsPermutation-refl []
IsPermutation-from_options [] (y ∷ ys) same =
    let long = length_permutation (map Some []) (map Some (y ∷ ys)) same in absurd (omega (arith, long))
IsPermutation-from_options {X} (x ∷ xs) ys same =
    subst (IsPermutation (x ∷ xs)) (there x ys)
    (subst (λ l. IsPermutation l (map (λ o. unwrap_or o x) (map Some ys))) (there x (x ∷ xs))
    (IsPermutation-map (λ (o : Option X). unwrap_or o x) (map Some (x ∷ xs)) (map Some ys) same))

-- items by indices in any order are a permutation of the rows' items
pub placed-permutation : (rows : List Row) (classes : List ℕ) (places : List ClassedPlace) (items : List Item)
    → length rows ≤ length classes → IsPermutation (placed_from 0 (take (length rows) classes)) places
    → map Some items ≡ map (item_placed rows) places → IsPermutation (items_with rows classes) items
placed-permutation rows classes places items enough same are =
    let first = placed_from 0 (take (length rows) classes) in
    IsPermutation-from_options (items_with rows classes) items
    (subst (IsPermutation (map Some (items_with rows classes))) (sym are)
    (subst (λ l. IsPermutation l (map (item_placed rows) places)) (placed-in_order rows classes enough)
    (IsPermutation-map (item_placed rows) first places same)))

-- an item has the class of its index
class_placed : (rows : List Row) (at : ClassedPlace) (x : Item) → Some x ≡ item_placed rows at → x.class ≡ at.class
class_placed rows at x is = class_of (slice_get rows at.place) is where
  class_of : (found : Option Row) → Some x ≡ option_map (λ (r : Row). item_with r at.class) found → x.class ≡ at.class
  class_of None e = absurd (cc)
  class_of (Some r) e = let same : x ≡ item_with r at.class = cc in ap (λ (y : Item). y.class) same

-- items have the classes of their indices
classes_placed : (rows : List Row) (places : List ClassedPlace) (items : List Item)
    → map Some items ≡ map (item_placed rows) places
    → map (λ (x : Item). x.class) items ≡ map (λ (at : ClassedPlace). at.class) places
classes_placed rows [] [] are = refl
classes_placed rows [] (x ∷ items) are = absurd (cc)
classes_placed rows (at ∷ places) [] are = absurd (cc)
classes_placed rows (at ∷ places) (x ∷ items) are =
    let first : Some x ≡ item_placed rows at = cc in
    let rest : map Some items ≡ map (item_placed rows) places = cc in
    ap (λ n. n ∷ map (λ (y : Item). y.class) items) (class_placed rows at x first)
    ∙ ap (λ l. at.class ∷ l) (classes_placed rows places items rest)

-- if the classes of the indices are in ascending order, so are the items' classes
pub placed-rise : (rows : List Row) (places : List ClassedPlace) (items : List Item)
    → map Some items ≡ map (item_placed rows) places → IsNonDecreasingBy (λ (at : ClassedPlace). at.class) places
    → IsNonDecreasingBy (λ (x : Item). x.class) items
placed-rise rows places items are rise i j d upto inside =
    let at : ClassedPlace = record { class = d.class; place = 0 } in
    let same = classes_placed rows places items are in
    let long : length items ≡ length places =
    sym (length-map items (λ (x : Item). x.class)) ∙ ap length same
    ∙ length-map places (λ (p : ClassedPlace). p.class) in
    let class_at : (k : ℕ) → k ≤ j → (get_or items k d).class ≡ (get_or places k at).class =
    λ k h.
    sym (get_or-map (λ (x : Item). x.class) items k d 0 (omega (arith, h, inside)))
    ∙ ap (λ l. get_or l k 0) same
    ∙ get_or-map (λ (p : ClassedPlace). p.class) places k at 0 (omega (arith, h, inside, long)) in
    let low = class_at i upto in
    let high = class_at j (omega arith) in
    let less = rise i j at upto (omega (arith, inside, long)) in
    omega (arith, low, high, less)

-- ---- the indices of a side by class

module _ (rows : List Row) (classes : List ℕ) (places : List ClassedPlace) (count : length classes ≡ length rows)
    (are : AreByClass classes places) where
  -- they are indices of rows
  pub by_class-within : All (λ (at : ClassedPlace). at.place < length rows) places
  by_class-within =
      All-permutation (λ (at : ClassedPlace). at.place < length rows) (placed_from 0 classes) places are.same
      (placed_from-within 0 classes (length rows) (omega (arith, count)))

  -- and the items at them are the rows' items by class
  pub by_class-items : (items : List Item) → map Some items ≡ map (item_placed rows) places
      → AreItemsByClass rows classes items
  by_class-items items made =
      let all : take (length rows) classes ≡ classes = take_all (length rows) classes (omega (arith, count)) in
      record {
        same = placed-permutation rows classes places items (omega (arith, count))
            (subst (λ l. IsPermutation (placed_from 0 l) places) (sym all) are.same) made;
        rise = placed-rise rows places items made are.rise;
      }
