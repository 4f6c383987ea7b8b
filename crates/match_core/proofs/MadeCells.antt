-- Sort keys that are made from one side's rows, and sorted.
use Rattle.std.proofs.Common.{◌≡◌, ℕ, zero, suc, ◌+◌, ◌-◌, ◌<◌, ◌≤◌, Bool, true, false, not, ◌&&◌, cond, List, [], ◌∷◌, ◌++◌, append_assoc, append-nil, length, get_or, map, filter, take, drop, Option, Some, None, Result, Ok, inl, inr, refl, sym, subst, ap, ◌∙◌, arith}
use Rattle.std.specs.Cmp.{IsTotalOrder}
use Rattle.std.specs.declared.cmp.Ordering.{Ordering}
use Rattle.std.specs.Ordering.{nat_cmp}
use Rattle.std.specs.Prelude.{All, Contains, IsPermutation, IsSorted, slice_get}
use Rattle.std.proofs.lemmas.List.{length-append, get_or_append_left, get_or-append_right, map-append}
use Rattle.std.proofs.lemmas.Bool.{cases_lt}
use Rattle.std.proofs.lemmas.List.Elements.{All-append, All-push, filter_agree, filter_more, filter_passes}
use Rattle.std.proofs.lemmas.List.Sorted.{All-permutation, Contains-permutation, IsPermutation-append, IsPermutation-cons, IsPermutation-map, IsPermutation-middle, IsPermutation-refl, IsPermutation-sym, IsPermutation-trans}
use Rattle.std.specs.Global.{Vec}
use Rattle.std.specs.declared.alloc.AllocError.{AllocError}
use Rattle.list_core.specs.Chunks.{all_in}
use Rattle.list_core.proofs.RisingLemmas.{Contains-cons, Contains-head}
use Rattle.work_core.specs.Pieces.{items_within}
use Rattle.work_core.specs.Ranges.{has, has_begun, is_from, range}
use Rattle.work_core.specs.Shares.{Gives, GivesFrom}
use Rattle.work_core.specs.declared.range.Range.{Range}
use Rattle.work_core.specs.declared.shares.Cut.{Cut}
use Rattle.work_core.proofs.PieceLemmas.{piece_cut}
use Rattle.work_core.proofs.RangeLemmas.{high_has, low_has}
use Rattle.work_core.proofs.ShareLemmas.{all_come}
use Rattle.row_core.specs.declared.value.Value.{Value}
use Rattle.match_core.specs.declared.cells.Cell.{Cell}
use Rattle.match_core.specs.declared.row_items.ClassedPlace.{ClassedPlace}
use Rattle.match_core.specs.Cells.{AreCellsAt, AreInOrder, AreSorted, IsCellAt, cell_cmp, cells_in, is_before, spot_of}
use Rattle.match_core.specs.ClassedPlaces.{placed_from}
use Rattle.match_core.proofs.CellOrder.{before-trans, cell_total}
use Rattle.match_core.proofs.PartLemmas.{none_yet, one_more}

-- ---- the sort keys of some rows

-- the number of indices is the number of classes
pub length-placed_from : (place : ℕ) (classes : List ℕ) → length (placed_from place classes) ≡ length classes
length-placed_from place [] = refl
length-placed_from place (c ∷ classes) = ap suc (length-placed_from (suc place) classes)

-- the element at an index
pub slice_get-placed_from : (place : ℕ) (classes : List ℕ) (i at : ℕ) → i < length classes → at ≡ place + i
    → slice_get (placed_from place classes) i ≡ Some (record { class = get_or classes i 0; place = at })
slice_get-placed_from place [] i at inside is = absurd (omega (arith, inside))
slice_get-placed_from place (c ∷ classes) zero at inside is =
    let same : place ≡ at = omega (arith, is) in
    ap (λ (n : ℕ). Some (record { class = c; place = n })) same
slice_get-placed_from place (c ∷ classes) (suc i) at inside is =
    slice_get-placed_from (suc place) classes i at (omega (arith, inside)) (omega (arith, is))

module _ {V : Type 0} (IsOf : Value → V → Type 0) (classes : List ℕ) (column : List (Option Value)) where
  -- no rows have no keys
  pub no_cells : (start : ℕ) (cells : List (Cell V)) → start ≤ length classes → cells ≡ []
      → AreCellsAt IsOf classes column (drop start (take start (placed_from 0 classes))) cells
  no_cells start cells within none =
      let places = placed_from 0 classes in
      let len = length-placed_from 0 classes in
      let nothing : drop start (take start places) ≡ [] = none_yet start places (omega (arith, within, len)) in
      subst (AreCellsAt IsOf classes column (drop start (take start places))) (sym none)
      (record { own = λ k d lt. absurd (omega (arith, lt)); spots = sym nothing })

  -- one more key
  pub cells_more : (start i : ℕ) (cell : Cell V) (cells new : List (Cell V)) → start ≤ i → i < length classes
      → IsCellAt IsOf classes column i cell → new ≡ cells ++ cell ∷ []
      → AreCellsAt IsOf classes column (drop start (take i (placed_from 0 classes))) cells
      → AreCellsAt IsOf classes column (drop start (take (i + 1) (placed_from 0 classes))) new
  cells_more start i cell cells new from inside at put was =
      let places = placed_from 0 classes in
      let spot : spot_of cell ≡ record { class = get_or classes i 0; place = i } =
      ap (λ (n : ℕ). record { class = n; place = cell.place }) at.made.class_is
      ∙ ap (λ (n : ℕ). record { class = get_or classes i 0; place = n }) at.made.place_is in
      let there : slice_get places i ≡ Some (spot_of cell) =
      slice_get-placed_from 0 classes i i inside (omega arith) ∙ ap Some (sym spot) in
      subst (AreCellsAt IsOf classes column (drop start (take (i + 1) places))) (sym put) (record {
        own = All-push (λ (c : Cell V). IsCellAt IsOf classes column c.place c) cells cell was.own
            (subst (λ n. IsCellAt IsOf classes column n cell) (sym at.made.place_is) at);
        spots = map-append spot_of cells (cell ∷ [])
            ∙ ap (λ l. l ++ spot_of cell ∷ []) was.spots
            ∙ sym (one_more start i places (spot_of cell) from there);
      })

  -- the keys of two partitions
  cells-append : (low high : List ClassedPlace) (cells more : List (Cell V))
      → AreCellsAt IsOf classes column low cells → AreCellsAt IsOf classes column high more
      → AreCellsAt IsOf classes column (low ++ high) (cells ++ more)
  cells-append low high cells more lows highs = record {
    own = All-append (λ (c : Cell V). IsCellAt IsOf classes column c.place c) cells more lows.own highs.own;
    spots = map-append spot_of cells more
        ∙ ap (λ l. l ++ map spot_of more) lows.spots
        ∙ ap (λ l. low ++ l) highs.spots;
  }

  -- the keys of all partitions
  pub pieces_made : (post : Range ℕ → ℕ → Result (Vec (Cell V)) AllocError → Type 0) (cuts : List (Cut ℕ))
      (lists : List (Vec (Cell V)))
      → ((places : Range ℕ) (n : ℕ) (cells : Vec (Cell V)) → post places n (Ok cells)
      → AreCellsAt IsOf classes column (items_within places (placed_from 0 classes)) cells.items)
      → GivesFrom nat_cmp (Gives post) None cuts lists
      → AreCellsAt IsOf classes column (placed_from 0 classes) (all_in lists)
  pieces_made post cuts lists known given =
      let all = placed_from 0 classes in
      all_come nat_cmp (Gives post)
      (λ (places : Range ℕ) (some : List (Vec (Cell V))). AreCellsAt IsOf classes column (items_within places all) (all_in some))
      (λ places cells own.
      subst (AreCellsAt IsOf classes column (items_within places all)) (sym (append-nil cells.items))
      (known places own.0 cells own.1))
      (λ from at cells more begun one others.
      subst (λ l. AreCellsAt IsOf classes column l (cells.items ++ all_in more)) (sym (piece_cut from at all begun))
      (cells-append (items_within (range from (Some at)) all) (items_within (range (Some at) None) all) cells.items (all_in more)
      (known (range from (Some at)) one.0 cells one.1) others))
      None cuts lists given

-- ---- the sort keys of a range

-- a key within a range that ends at another key: the range has begun, and the key comes before the end
low_parts : (b t : Bool) → b && not (not t) ≡ true → (b ≡ true) × (t ≡ true)
low_parts true true e = (refl, refl)
low_parts true false e = absurd (cc)
low_parts false t e = absurd (cc)

-- a key within a range that has no end
high_part : (b : Bool) → b && true ≡ true → b ≡ true
high_part true e = refl
high_part false e = absurd (cc)

-- double negation
from_denied : (t : Bool) → not t ≡ true → t ≡ false
from_denied true e = absurd (cc)
from_denied false e = refl

-- ---- sorted keys

module _ {V : Type 0} (cmp : V → V → Ordering) (total : IsTotalOrder cmp) where
  -- if one sorted list has only keys before some key, and the other has none before it, both together are sorted
  sorted-append : (low high : List (Cell V)) (at : Cell V) → All (λ c. is_before cmp c at ≡ true) low
      → All (λ c. is_before cmp c at ≡ false) high → IsSorted (cell_cmp cmp) low → IsSorted (cell_cmp cmp) high
      → IsSorted (cell_cmp cmp) (low ++ high)
  sorted-append low high at before from up down k d lt inside = elim (cases_lt (k + 1) (length low)) [
    | inl less ↦
        subst (λ x. is_before cmp x (get_or (low ++ high) k d) ≡ false)
        (sym (get_or_append_left low high d (k + 1) less))
        (subst (λ x. is_before cmp (get_or low (k + 1) d) x ≡ false)
        (sym (get_or_append_left low high d k (omega (arith, less)))) (up k d (omega (arith, less)) less))
    | inr le ↦ (
        let n : length (low ++ high) ≡ length low + length high = length-append low high in
        let next : get_or (low ++ high) (k + 1) d ≡ get_or high (k + 1 - length low) d =
        get_or-append_right low high (length low) (k + 1) d refl le in
        elim (cases_lt k (length low)) [
          | inl last ↦ (
              let here : get_or (low ++ high) k d ≡ get_or low k d = get_or_append_left low high d k last in
              let none : k + 1 - length low ≡ 0 = omega arith in
              let behind : is_before cmp (get_or high 0 d) at ≡ false = from 0 d (omega (arith, n, inside, last)) in
              subst (λ x. is_before cmp x (get_or (low ++ high) k d) ≡ false)
              (sym (next ∙ ap (λ m. get_or high m d) none))
              (subst (λ x. is_before cmp (get_or high 0 d) x ≡ false) (sym here)
              (not_before (get_or high 0 d) (get_or low k d) behind (before k d last))))
          | inr behind ↦ (
              let m = k - length low in
              let here : get_or (low ++ high) k d ≡ get_or high m d =
              get_or-append_right low high (length low) k d refl behind in
              let one : k + 1 - length low ≡ m + 1 = omega arith in
              subst (λ x. is_before cmp x (get_or (low ++ high) k d) ≡ false)
              (sym (next ∙ ap (λ l. get_or high l d) one))
              (subst (λ x. is_before cmp (get_or high (m + 1) d) x ≡ false) (sym here)
              (down m d (omega (arith, n, inside, behind)) (omega (arith, n, inside, behind)))))
        ])
  ]
    where
      not_before : (x y : Cell V) → is_before cmp x at ≡ false → is_before cmp y at ≡ true → is_before cmp x y ≡ false
      not_before x y behind less = by_test (is_before cmp x y) refl where
        by_test : (t : Bool) → is_before cmp x y ≡ t → is_before cmp x y ≡ false
        by_test false e = e
        by_test true e = absurd (
            let bad : true ≡ false = sym (before-trans cmp total x y at e less) ∙ behind in cc)

-- the first keys within a range, and the next key
module _ {V : Type 0} (cmp : V → V → Ordering) (range : Range (Cell V)) (cells : List (Cell V)) (i : ℕ) (cell : Cell V)
    (inside : i < length cells) (here : cell ≡ get_or cells i cell) (old found new : List (Cell V))
    (was : found ≡ old ++ cells_in cmp range (take i cells)) where
  one_kept : (b : Bool) → has (cell_cmp cmp) range cell ≡ b
      → cells_in cmp range (take (i + 1) cells) ≡ cells_in cmp range (take i cells) ++ cond b (cell ∷ []) []
  one_kept b test =
      let p : Cell V → Bool = λ x. has (cell_cmp cmp) range x in
      let before = cells_in cmp range (take i cells) in
      filter_more p cells i cell inside
      ∙ ap (λ (x : Cell V). before ++ cond (p x) (x ∷ []) []) (sym here)
      ∙ ap (λ b. before ++ cond b (cell ∷ []) []) test

  -- the next key is within the range
  pub kept_more : has (cell_cmp cmp) range cell ≡ true → new ≡ found ++ cell ∷ []
      → new ≡ old ++ cells_in cmp range (take (i + 1) cells)
  kept_more test put =
      put ∙ ap (λ l. l ++ cell ∷ []) was
      ∙ append_assoc old (cells_in cmp range (take i cells)) (cell ∷ [])
      ∙ ap (λ l. old ++ l) (sym (one_kept true test))

  -- the next key isn't within the range
  pub kept_same : has (cell_cmp cmp) range cell ≡ false → new ≡ found
      → new ≡ old ++ cells_in cmp range (take (i + 1) cells)
  kept_same test same =
      same ∙ was
      ∙ ap (λ l. old ++ l) (sym (one_kept false test ∙ append-nil (cells_in cmp range (take i cells))))

-- filtering a list by a test and by its negation gives a permutation of the list
parted_moved : {X : Type 0} (all late : X → Bool) (xs : List X)
    → IsPermutation (filter all xs) (filter (λ x. all x && not (late x)) xs ++ filter (λ x. all x && late x) xs)
parted_moved all late [] = IsPermutation-refl []
parted_moved {X} all late (x ∷ xs) =
    by_tests (all x) (late x) (filter all xs) (filter (λ (y : X). all y && not (late y)) xs)
    (filter (λ (y : X). all y && late y) xs) (parted_moved all late xs)
  where
    by_tests : (a l : Bool) (rest low high : List X) → IsPermutation rest (low ++ high)
        → IsPermutation (cond a (x ∷ rest) rest) (cond (a && not l) (x ∷ low) low ++ cond (a && l) (x ∷ high) high)
    by_tests true true rest low high is =
        IsPermutation-trans (x ∷ rest) (x ∷ (low ++ high)) (low ++ x ∷ high)
        (IsPermutation-cons x rest (low ++ high) is)
        (IsPermutation-sym (low ++ x ∷ high) (x ∷ (low ++ high)) (IsPermutation-middle low x high))
    by_tests true false rest low high is = IsPermutation-cons x rest (low ++ high) is
    by_tests false l rest low high is = is

-- a range without ends contains all keys
whole_kept : {V : Type 0} (cmp : V → V → Ordering) (cells : List (Cell V)) → cells_in cmp (range None None) cells ≡ cells
whole_kept cmp [] = refl
whole_kept cmp (c ∷ cells) = ap (λ l. c ∷ l) (whole_kept cmp cells)

module _ {V : Type 0} (cmp : V → V → Ordering) (total : IsTotalOrder cmp) where
  -- a range without an end is split at a key into the keys before it and the rest
  range_moved : (from : Option (Cell V)) (at : Cell V) (cells : List (Cell V)) → has_begun (cell_cmp cmp) from at ≡ true
      → IsPermutation (cells_in cmp (range from None) cells)
      (cells_in cmp (range from (Some at)) cells ++ cells_in cmp (range (Some at) None) cells)
  range_moved from at cells begun =
      let order = cell_cmp cmp in
      let all : Cell V → Bool = λ x. has order (range from None) x in
      let late : Cell V → Bool = λ x. is_from order at x in
      let low : Cell V → Bool = λ x. has order (range from (Some at)) x in
      let high : Cell V → Bool = λ x. has order (range (Some at) None) x in
      let lows : filter (λ (x : Cell V). all x && not (late x)) cells ≡ filter low cells =
      filter_agree (λ (x : Cell V). all x && not (late x)) low
      (λ x. sym (low_has order (cell_total cmp total) from at x)) cells in
      let highs : filter (λ (x : Cell V). all x && late x) cells ≡ filter high cells =
      filter_agree (λ (x : Cell V). all x && late x) high
      (λ x. sym (high_has order (cell_total cmp total) from at x begun)) cells in
      subst (λ (l : List (Cell V)). IsPermutation (filter all cells) (l ++ filter high cells)) lows
      (subst (λ (l : List (Cell V)). IsPermutation (filter all cells)
      (filter (λ (x : Cell V). all x && not (late x)) cells ++ l)) highs
      (parted_moved all late cells))

  -- and the result is in ascending order
  sorted_ranges : (from : Option (Cell V)) (at : Cell V) (made low high : List (Cell V))
      → has_begun (cell_cmp cmp) from at ≡ true → AreInOrder cmp (cells_in cmp (range from (Some at)) made) low
      → AreInOrder cmp (cells_in cmp (range (Some at) None) made) high
      → AreInOrder cmp (cells_in cmp (range from None) made) (low ++ high)
  sorted_ranges from at made low high begun lows highs =
      let order = cell_cmp cmp in
      let early = cells_in cmp (range from (Some at)) made in
      let late = cells_in cmp (range (Some at) None) made in
      let before : All (λ (c : Cell V). has order (range from (Some at)) c ≡ true) low =
      All-permutation (λ (c : Cell V). has order (range from (Some at)) c ≡ true) early low lows.same
      (filter_passes (λ (c : Cell V). has order (range from (Some at)) c) made) in
      let behind : All (λ (c : Cell V). has order (range (Some at) None) c ≡ true) high =
      All-permutation (λ (c : Cell V). has order (range (Some at) None) c ≡ true) late high highs.same
      (filter_passes (λ (c : Cell V). has order (range (Some at) None) c) made) in
      record {
        same = IsPermutation-trans (cells_in cmp (range from None) made) (early ++ late) (low ++ high)
            (range_moved from at made begun)
            (IsPermutation-append early low late high lows.same highs.same);
        rise = sorted-append cmp total low high at
            (λ k d lt.
            (low_parts (has_begun order from (get_or low k d)) (is_before cmp (get_or low k d) at)
            (before k d lt)).1)
            (λ k d lt.
            from_denied (is_before cmp (get_or high k d) at)
            (high_part (is_from order at (get_or high k d)) (behind k d lt)))
            lows.rise highs.rise;
      }

  -- the lists of all ranges together are all keys in ascending order
  pub ranges_in_order : (made : List (Cell V))
      (post : Range (Cell V) → ℕ → Result (Vec (Cell V)) AllocError → Type 0) (cuts : List (Cut (Cell V)))
      (lists : List (Vec (Cell V)))
      → ((r : Range (Cell V)) (n : ℕ) (cells : Vec (Cell V)) → post r n (Ok cells)
      → AreInOrder cmp (cells_in cmp r made) cells.items)
      → GivesFrom (cell_cmp cmp) (Gives post) None cuts lists → AreInOrder cmp made (all_in lists)
  ranges_in_order made post cuts lists known given =
      subst (λ (l : List (Cell V)). AreInOrder cmp l (all_in lists)) (whole_kept cmp made)
      (all_come (cell_cmp cmp) (Gives post)
      (λ (r : Range (Cell V)) (all : List (Vec (Cell V))). AreInOrder cmp (cells_in cmp r made) (all_in all))
      (λ r cells own.
      subst (AreInOrder cmp (cells_in cmp r made)) (sym (append-nil cells.items)) (known r own.0 cells own.1))
      (λ from at cells more begun one others.
      sorted_ranges from at made cells.items (all_in more) begun
      (known (range from (Some at)) one.0 cells one.1) others)
      None cuts lists given)

-- ---- the sort keys of all rows

-- the key of the row at an index
cell_of_place : {V : Type 0} (cells : List (Cell V)) (places : List ClassedPlace) (i : ℕ) (spot : ClassedPlace)
    → map spot_of cells ≡ places → slice_get places i ≡ Some spot
    → (cell : Cell V) × Contains cells cell × (cell.place ≡ spot.place)
cell_of_place [] places i spot are there =
    absurd (let none : slice_get [] i ≡ Some spot = ap (λ l. slice_get l i) are ∙ there in cc)
cell_of_place {V} (c ∷ cells) places zero spot are there =
    let is : Some (spot_of c) ≡ Some spot = ap (λ l. slice_get l 0) are ∙ there in
    let same : spot_of c ≡ spot = cc in
    (c, Contains-head c cells, ap (λ (s : ClassedPlace). s.place) same)
cell_of_place {V} (c ∷ cells) places (suc i) spot are there =
    let (x, has, place) = cell_of_place cells (map spot_of cells) i spot refl (ap (λ l. slice_get l (suc i)) are ∙ there) in
    (x, Contains-cons c cells x has, place)

-- the keys of all rows, in ascending order
pub all_sorted : {V : Type 0} (cmp : V → V → Ordering) (IsOf : Value → V → Type 0) (classes : List ℕ)
    (column : List (Option Value)) (made cells : List (Cell V)) → length classes ≡ length column
    → AreCellsAt IsOf classes column (placed_from 0 classes) made → AreInOrder cmp made cells
    → AreSorted cmp IsOf classes column cells
all_sorted {V} cmp IsOf classes column made cells count are put = record {
  own = All-permutation (λ (c : Cell V). IsCellAt IsOf classes column c.place c) made cells put.same are.own;
  each = λ i lt.
      (let (x, has, place) = cell_of_place made (placed_from 0 classes) i
      (record { class = get_or classes i 0; place = i }) are.spots
      (slice_get-placed_from 0 classes i i (omega (arith, lt, count)) (omega arith)) in
      (x, Contains-permutation made cells x put.same has, place));
  spots = subst (λ l. IsPermutation l (map spot_of cells)) are.spots (IsPermutation-map spot_of made cells put.same);
  rise = put.rise;
}
