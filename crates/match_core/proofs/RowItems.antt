-- Rows and their items.
use Rattle.std.proofs.Common.{◌≡◌, ◌<◌, ◌≤◌, ℕ, zero, suc, ◌+◌, Bool, true, false, cond, List, length, [], ◌∷◌, get_or, take, drop, ◌++◌, Option, Some, None, refl, subst, sym, ap, ◌∙◌, inl, inr, arith, append-nil}
use Rattle.std.specs.Prelude.{slice_get, AllPairs, Contains, filter}
use Rattle.std.specs.Ordering.{nat_cmp}
use Rattle.std.proofs.lemmas.List.Elements.{filter-append}
use Rattle.std.proofs.lemmas.Option.{slice_get-get_or}
use Rattle.row_core.specs.Rows.{RowsRise}
use Rattle.row_core.specs.declared.row.Row.{Row}
use Rattle.dip_core.specs.declared.item.Item.{Item}
use Rattle.list_core.proofs.RisingLemmas.{AllPairs-head, Contains-cons, Contains-cons_cases, Contains-head, Contains-none}
use Rattle.list_core.proofs.WantedLemmas.{AllPairs-before}
use Rattle.match_core.specs.Items.{item_with, items_of, items_with}
use Rattle.match_core.proofs.PartLemmas.{one_more}
use Rattle.work_core.specs.Pieces.{items_within, piece_before, piece_from}
use Rattle.work_core.specs.Ranges.{has}
use Rattle.work_core.specs.declared.range.Range.{Range}

-- A row and its item at one index.
pub record IsItemAt (rows : List Row) (classes : List ℕ) (r : Row) (x : Item) : Type 0 where
  pub place : ℕ
  pub row_at : slice_get rows place ≡ Some r
  pub class_at : x.class ≡ get_or classes place 0
  pub row_in : Contains rows r
  pub item_in : Contains (items_with rows classes) x
  pub id : x.id ≡ r.id
  pub period : x.period ≡ r.period

-- a row and its item after another row
later_place : (q : Row) (c : ℕ) (rows : List Row) (classes : List ℕ) (r : Row) (x : Item) → IsItemAt rows classes r x
    → IsItemAt (q ∷ rows) (c ∷ classes) r x
later_place q c rows classes r x a = record {
  place = suc a.place;
  row_at = a.row_at;
  class_at = a.class_at;
  row_in = Contains-cons q rows r a.row_in;
  item_in = Contains-cons (item_with q c) (items_with rows classes) x a.item_in;
  id = a.id;
  period = a.period;
}

-- the first row and its item
first_place : (q : Row) (c : ℕ) (rows : List Row) (classes : List ℕ)
    → IsItemAt (q ∷ rows) (c ∷ classes) q (item_with q c)
first_place q c rows classes = record {
  place = 0;
  row_at = refl;
  class_at = refl;
  row_in = Contains-head q rows;
  item_in = Contains-head (item_with q c) (items_with rows classes);
  id = refl;
  period = refl;
}

-- the row of an item
pub row_of_item : (rows : List Row) (classes : List ℕ) (x : Item) → Contains (items_with rows classes) x
    → (r : Row) × IsItemAt rows classes r x
row_of_item [] classes x h = absurd (Contains-none x h)
row_of_item (q ∷ rows) [] x h = absurd (Contains-none x h)
row_of_item (q ∷ rows) (c ∷ classes) x h =
    elim (Contains-cons_cases (item_with q c) (items_with rows classes) x h) [
      | inl e ↦ (q, subst (IsItemAt (q ∷ rows) (c ∷ classes) q) e (first_place q c rows classes))
      | inr k ↦ (let a = row_of_item rows classes x k in (a.0, later_place q c rows classes a.0 x a.1))
    ]

-- the item of a row
pub item_of_row : (rows : List Row) (classes : List ℕ) (r : Row) → length rows ≤ length classes → Contains rows r
    → (x : Item) × IsItemAt rows classes r x
item_of_row [] classes r enough h = absurd (Contains-none r h)
item_of_row (q ∷ rows) [] r enough h = absurd (omega arith)
item_of_row (q ∷ rows) (c ∷ classes) r enough h =
    elim (Contains-cons_cases q rows r h) [
      | inl e ↦ (
        item_with q c,
        subst (λ z. IsItemAt (q ∷ rows) (c ∷ classes) z (item_with q c)) e (first_place q c rows classes),
      )
      | inr k ↦ (let a = item_of_row rows classes r (omega arith) k in (a.0, later_place q c rows classes r a.0 a.1))
    ]

-- ascending ids differ
pub ids_rise : (rows : List Row) → RowsRise rows → AllPairs (λ x y. x.id < y.id) rows
ids_rise [] rise = λ i j d less h. absurd (omega arith)
ids_rise (x ∷ []) rise = λ i j d less h. absurd (omega arith)
ids_rise (x ∷ (y ∷ ys)) rise =
    let rest : AllPairs (λ (x : Row) (y : Row). x.id < y.id) (y ∷ ys) =
    ids_rise (y ∷ ys)
    (λ i d h. let e : suc i + 1 ≡ suc (i + 1) = omega arith in rw e at (rise (suc i) d (omega arith))) in
    let first : x.id < y.id = rise 0 x (omega arith) in
    AllPairs-before (λ (x : Row) (y : Row). x.id < y.id) x (y ∷ ys)
    (λ z h.
    elim (Contains-cons_cases y ys z h) [
      | inl e ↦ subst (λ (v : Row). x.id < v.id) e first
      | inr k ↦ (let after : y.id < z.id = AllPairs-head (λ (x : Row) (y : Row). x.id < y.id) y ys z rest k in
          omega arith)
    ])
    rest

-- the number of items is the number of rows
pub length-items_with : (rows : List Row) (classes : List ℕ) → length rows ≤ length classes
    → length (items_with rows classes) ≡ length rows
length-items_with [] classes enough = refl
length-items_with (r ∷ rows) [] enough = absurd (omega arith)
length-items_with (r ∷ rows) (c ∷ classes) enough = let e = length-items_with rows classes (omega arith) in
    omega (arith, e)

-- one more row as an item of one class
pub items_of-more : (rows : List Row) (i : ℕ) (r : Row) → slice_get rows i ≡ Some r
    → items_of (take (i + 1) rows) ≡ items_of (take i rows) ++ item_with r 0 ∷ []
items_of-more [] i r h = absurd (cc)
items_of-more (q ∷ rows) zero r h = let e : q ≡ r = cc in ap (λ (x : Row). item_with x 0 ∷ []) e
items_of-more (q ∷ rows) (suc i) r h =
    let e : suc i + 1 ≡ suc (i + 1) = omega arith in
    ap (λ n. items_of (take n (q ∷ rows))) e ∙ ap (λ l. item_with q 0 ∷ l) (items_of-more rows i r h)

-- without classes there are no items
items_with-unclassed : (rows : List Row) → items_with rows [] ≡ []
items_with-unclassed [] = refl
items_with-unclassed (r ∷ rows) = refl

-- the items of a partition of the rows
items_with-before : (end : Option ℕ) (rows : List Row) (classes : List ℕ)
    → items_with (piece_before end rows) (piece_before end classes) ≡ piece_before end (items_with rows classes)
items_with-before None rows classes = refl
items_with-before (Some zero) rows classes = refl
items_with-before (Some (suc n)) [] classes = refl
items_with-before (Some (suc n)) (r ∷ rows) [] = refl
items_with-before (Some (suc n)) (r ∷ rows) (c ∷ classes) =
    ap (λ l. item_with r c ∷ l) (items_with-before (Some n) rows classes)

items_with-from : (start : Option ℕ) (rows : List Row) (classes : List ℕ)
    → items_with (piece_from start rows) (piece_from start classes) ≡ piece_from start (items_with rows classes)
items_with-from None rows classes = refl
items_with-from (Some zero) rows classes = refl
items_with-from (Some (suc n)) [] classes = refl
items_with-from (Some (suc n)) (r ∷ rows) [] = items_with-unclassed (drop n rows)
items_with-from (Some (suc n)) (r ∷ rows) (c ∷ classes) = items_with-from (Some n) rows classes

pub items_with-piece : (places : Range ℕ) (rows : List Row) (classes : List ℕ)
    → items_with (items_within places rows) (items_within places classes) ≡ items_within places (items_with rows classes)
items_with-piece places rows classes =
    items_with-from places.from (piece_before places.before rows) (piece_before places.before classes)
    ∙ ap (piece_from places.from) (items_with-before places.before rows classes)

-- Whether an item's class is within a range.
abbrev is_in : Range ℕ → Item → Bool
is_in range x = has nat_cmp range x.class

-- the item of a row is at the row's index
slice_get-items_with : (rows : List Row) (classes : List ℕ) (i : ℕ) (r : Row) → slice_get rows i ≡ Some r
    → i < length classes → slice_get (items_with rows classes) i ≡ Some (item_with r (get_or classes i 0))
slice_get-items_with [] classes i r here k = absurd (cc)
slice_get-items_with (q ∷ rows) [] i r here k = absurd (omega (arith, k))
slice_get-items_with (q ∷ rows) (c ∷ classes) zero r here k =
    let e : q ≡ r = cc in ap (λ (x : Row). Some (item_with x c)) e
slice_get-items_with (q ∷ rows) (c ∷ classes) (suc i) r here k =
    slice_get-items_with rows classes i r here (omega (arith, k))

-- The items from index `start` up to `i` whose classes are within a range.
abbrev pub items_from : Range ℕ → List Row → List ℕ → ℕ → ℕ → List Item
items_from range rows classes start i = filter (is_in range) (drop start (take i (items_with rows classes)))

-- one more row, and its item if that is within the range
items_from-one : (range : Range ℕ) (rows : List Row) (classes : List ℕ) (start i : ℕ) (r : Row) → start ≤ i
    → slice_get rows i ≡ Some r → i < length classes
    → items_from range rows classes start (i + 1)
    ≡ items_from range rows classes start i ++ cond (has nat_cmp range (get_or classes i 0))
    (item_with r (get_or classes i 0) ∷ []) []
items_from-one range rows classes start i r from here k =
    ap (filter (is_in range))
    (one_more start i (items_with rows classes) (item_with r (get_or classes i 0)) from
    (slice_get-items_with rows classes i r here k))
    ∙ filter-append (is_in range) (drop start (take i (items_with rows classes)))
    (item_with r (get_or classes i 0) ∷ [])

-- a row whose item is within the range
pub items_from-more : (range : Range ℕ) (rows : List Row) (classes : List ℕ) (start i : ℕ) (r : Row) → start ≤ i
    → slice_get rows i ≡ Some r → i < length classes → has nat_cmp range (get_or classes i 0) ≡ true
    → items_from range rows classes start i ++ item_with r (get_or classes i 0) ∷ []
    ≡ items_from range rows classes start (i + 1)
items_from-more range rows classes start i r from here k on =
    ap (λ b. items_from range rows classes start i ++ cond b (item_with r (get_or classes i 0) ∷ []) []) (sym on)
    ∙ sym (items_from-one range rows classes start i r from here k)

-- a row whose item isn't within the range
pub items_from-same : (range : Range ℕ) (rows : List Row) (classes : List ℕ) (start i : ℕ) → start ≤ i
    → i < length rows → i < length classes → has nat_cmp range (get_or classes i 0) ≡ false
    → items_from range rows classes start i ≡ items_from range rows classes start (i + 1)
items_from-same range [] classes start i from h k off = absurd (omega (arith, h))
items_from-same range (q ∷ rows) classes start i from h k off =
    let all = q ∷ rows in
    let r = get_or all i q in
    sym (append-nil (items_from range all classes start i))
    ∙ ap (λ b. items_from range all classes start i ++ cond b (item_with r (get_or classes i 0) ∷ []) []) (sym off)
    ∙ sym (items_from-one range all classes start i r from (slice_get-get_or all i q h) k)
