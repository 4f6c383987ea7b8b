-- Rows that are found by id.
use Rattle.std.proofs.Common.{◌≡◌, ◌≢◌, ℕ, zero, suc, ◌+◌, ◌-◌, ◌<◌, ◌≤◌, true, false, cond, List, [], ◌∷◌, length, get_or, set, Some, None, refl, sym, subst, ap, ◌∙◌, inl, inr, arith, eq-eqb, get_or-set_same, get_or-set_other}
use Rattle.std.specs.Prelude.{All, AllPairs, Contains, find, ◌==◌, slice_get}
use Rattle.std.proofs.lemmas.Bool.{cases_eq, cases_lt, ne_eqb}
use Rattle.std.proofs.lemmas.List.{get_or_read, length-set}
use Rattle.std.proofs.lemmas.List.Elements.{Contains-get_or}
use Rattle.std.proofs.lemmas.Option.{get_or_from_slice_get}
use Rattle.row_core.specs.Rows.{RowsRise}
use Rattle.row_core.specs.declared.row.Row.{Row}
use Rattle.list_core.proofs.RisingLemmas.{AllPairs-head, AllPairs-tail, Contains-cons_cases, Contains-none}
use Rattle.match_core.proofs.RowItems.{ids_rise}

-- ---- rows by ascending id

-- ascending ids are at least as far apart as their rows
ids_apart : (rows : List Row) → RowsRise rows → (i k : ℕ) (d : Row) → i + k < length rows
    → (get_or rows i d).id + k ≤ (get_or rows (i + k) d).id
ids_apart rows rise i zero d within = let e : i + 0 ≡ i = omega arith in
    subst (λ n. (get_or rows i d).id + 0 ≤ (get_or rows n d).id) (sym e) (omega arith)
ids_apart rows rise i (suc k) d within =
    let e : i + suc k ≡ i + k + 1 = omega arith in
    let far : (get_or rows i d).id + k ≤ (get_or rows (i + k) d).id = ids_apart rows rise i k d (omega arith) in
    let next : (get_or rows (i + k) d).id < (get_or rows (i + k + 1) d).id = rise (i + k) d (omega arith) in
    subst (λ n. (get_or rows i d).id + suc k ≤ (get_or rows n d).id) (sym e) (omega (arith, far, next))

-- the first row's id is the least
pub first_low : (rows : List Row) (k : ℕ) (x d : Row) → RowsRise rows → 0 < length rows → x ≡ get_or rows 0 x
    → k < length rows → (get_or rows 0 x).id ≤ (get_or rows k d).id
first_low rows k x d rise some here within =
    let far : (get_or rows 0 d).id + k ≤ (get_or rows (0 + k) d).id = ids_apart rows rise 0 k d (omega arith) in
    let e : 0 + k ≡ k = omega arith in
    let there : (get_or rows 0 d).id + k ≤ (get_or rows k d).id =
    subst (λ n. (get_or rows 0 d).id + k ≤ (get_or rows n d).id) e far in
    let same : (get_or rows 0 x).id ≡ (get_or rows 0 d).id =
    ap (λ (r : Row). r.id) (sym here ∙ get_or_read rows 0 x some here d) in
    omega (arith, there, same)

-- an id is at one index
pub one_place : (rows : List Row) → RowsRise rows → (i k : ℕ) (d : Row) → i < length rows → k < length rows
    → (get_or rows i d).id ≡ (get_or rows k d).id → i ≡ k
one_place rows rise i k d hi hk same = elim (cases_lt i k) [
  | inl less ↦ (
      let e : i + (k - i) ≡ k = omega arith in
      let far : (get_or rows i d).id + (k - i) ≤ (get_or rows (i + (k - i)) d).id =
      ids_apart rows rise i (k - i) d (omega arith) in
      let there : (get_or rows i d).id + (k - i) ≤ (get_or rows k d).id =
      subst (λ n. (get_or rows i d).id + (k - i) ≤ (get_or rows n d).id) e far in
      omega (arith, there, same))
  | inr more ↦ (
      let e : k + (i - k) ≡ i = omega arith in
      let far : (get_or rows k d).id + (i - k) ≤ (get_or rows (k + (i - k)) d).id =
      ids_apart rows rise k (i - k) d (omega arith) in
      let there : (get_or rows k d).id + (i - k) ≤ (get_or rows i d).id =
      subst (λ n. (get_or rows k d).id + (i - k) ≤ (get_or rows n d).id) e far in
      omega (arith, there, same))
]

-- a row of a list with ascending ids is found by its id
find_in : (rows : List Row) (x : Row) → AllPairs (λ (x : Row) (y : Row). x.id < y.id) rows → Contains rows x
    → find (λ row. row.id == x.id) rows ≡ Some x
find_in [] x rise h = absurd (Contains-none x h)
find_in (r ∷ rows) x rise h =
    elim (Contains-cons_cases r rows x h) [
      | inl e ↦ (
          let same : (r.id == x.id) ≡ true = eq-eqb r.id x.id (ap (λ (v : Row). v.id) e) in
          ap (λ b. cond b (Some r) (find (λ (row : Row). row.id == x.id) rows)) same ∙ ap (λ (v : Row). Some v) e)
      | inr k ↦ (
          let below : r.id < x.id = AllPairs-head (λ (x : Row) (y : Row). x.id < y.id) r rows x rise k in
          let other : (r.id == x.id) ≡ false = ne_eqb r.id x.id (omega arith) in
          ap (λ b. cond b (Some r) (find (λ (row : Row). row.id == x.id) rows)) other
          ∙ find_in rows x (AllPairs-tail (λ (x : Row) (y : Row). x.id < y.id) r rows rise) k)
    ]

-- the row at an index is found by its id
pub find_at_place : (rows : List Row) (p id : ℕ) (x : Row) → RowsRise rows → p < length rows → x ≡ get_or rows p x
    → x.id ≡ id → Some x ≡ find (λ row. row.id == id) rows
find_at_place rows p id x rise within here same =
    let has : Contains rows x = subst (Contains rows) (sym here) (Contains-get_or rows p x within) in
    sym (subst (λ n. find (λ (row : Row). row.id == n) rows ≡ Some x) same (find_in rows x (ids_rise rows rise) has))

-- if no row has the id, none is found
pub find_nowhere : (rows : List Row) (id : ℕ)
    → ((p : ℕ) (d : Row) → p < length rows → (get_or rows p d).id ≢ id) → None ≡ find (λ row. row.id == id) rows
find_nowhere [] id none = refl
find_nowhere (r ∷ rows) id none =
    let other : (r.id == id) ≡ false = ne_eqb r.id id (none 0 r (omega arith)) in
    find_nowhere rows id (λ p d lt. none (suc p) d (omega arith))
    ∙ ap (λ b. cond b (Some r) (find (λ (row : Row). row.id == id) rows)) (sym other)

-- ---- indices

-- The indices of the first `n` rows are stored at their ids.
abbrev pub ArePlacesOf : ℕ → ℕ → List Row → List ℕ → Type 0
ArePlacesOf n first rows places = (k : ℕ) (d : Row) → k < n → (get_or rows k d).id - first < length places
    → get_or places ((get_or rows k d).id - first) 0 ≡ k

-- a row's index is at most its id's distance from the first id
pub place_low : (rows : List Row) (first i : ℕ) (x : Row) → RowsRise rows
    → All (λ (row : Row). first ≤ row.id) rows → i < length rows → x ≡ get_or rows i x → i ≤ x.id - first
place_low rows first i x rise low within here =
    let far : (get_or rows 0 x).id + i ≤ (get_or rows (0 + i) x).id = ids_apart rows rise 0 i x (omega arith) in
    let e : 0 + i ≡ i = omega arith in
    let there : (get_or rows 0 x).id + i ≤ (get_or rows i x).id =
    subst (λ n. (get_or rows 0 x).id + i ≤ (get_or rows n x).id) e far in
    let least : first ≤ (get_or rows 0 x).id = low 0 x (omega arith) in
    let same : x.id ≡ (get_or rows i x).id = ap (λ (r : Row). r.id) here in
    omega (arith, there, least, same)

-- the index of one more row
pub placed_more : (rows : List Row) (places : List ℕ) (first i at : ℕ) (x : Row) → RowsRise rows
    → All (λ (row : Row). first ≤ row.id) rows → i < length rows → x ≡ get_or rows i x → at ≡ x.id - first
    → at < length places → ArePlacesOf i first rows places → ArePlacesOf (i + 1) first rows (set places at i)
placed_more rows places first i at x rise low within here is inside before k d lt room =
    let there : x.id ≡ (get_or rows i d).id = ap (λ (r : Row). r.id) (get_or_read rows i x within here d) in
    let own : ℕ = (get_or rows k d).id - first in
    elim (cases_eq k i) [
      | inl e ↦ (
          let same : own ≡ at =
          ap (λ n. (get_or rows n d).id - first) e ∙ ap (λ n. n - first) (sym there) ∙ sym is in
          ap (λ n. get_or (set places at i) n 0) same ∙ get_or-set_same places at i 0 inside ∙ sym e)
      | inr ne ↦ (
          let high : first ≤ (get_or rows k d).id = low k d (omega arith) in
          let high_too : first ≤ (get_or rows i d).id = low i d within in
          let other : own ≢ at = λ f. ne (one_place rows rise k i d (omega arith) within
          (omega (arith, f, is, there, high, high_too))) in
          let len : length (set places at i) ≡ length places = length-set places at i in
          get_or-set_other places at own i 0 other ∙ before k d (omega arith) (omega (arith, room, len)))
    ]

-- a row whose id is past the stored indices has none
pub placed_less : (rows : List Row) (places : List ℕ) (first i at : ℕ) (x : Row) → i < length rows
    → x ≡ get_or rows i x → at ≡ x.id - first → length places ≤ at → ArePlacesOf i first rows places
    → ArePlacesOf (i + 1) first rows places
placed_less rows places first i at x within here is outside before k d lt room =
    let there : x.id ≡ (get_or rows i d).id = ap (λ (r : Row). r.id) (get_or_read rows i x within here d) in
    elim (cases_eq k i) [
      | inl e ↦ (
          let same : (get_or rows k d).id - first ≡ at =
          ap (λ n. (get_or rows n d).id - first) e ∙ ap (λ n. n - first) (sym there) ∙ sym is in
          absurd (omega (arith, same, outside, room)))
      | inr ne ↦ before k d (omega arith) room
    ]

-- ---- a binary search

-- The row with the id, if there is one, has an index from `low` on, below `high`.
pub record IsBetween (rows : List Row) (id low high : ℕ) : Type 0 where
  pub ordered : low ≤ high
  pub within : high ≤ length rows
  pub below : (k : ℕ) (d : Row) → k < low → (get_or rows k d).id < id
  pub above : (k : ℕ) (d : Row) → high ≤ k → k < length rows → id ≤ (get_or rows k d).id

-- at first any index is possible
pub between_all : (rows : List Row) (id high : ℕ) → high ≡ length rows → IsBetween rows id 0 high
between_all rows id high e = record {
  ordered = omega arith;
  within = omega (arith, e);
  below = λ k d lt. absurd (omega (arith, lt));
  above = λ k d from lt. absurd (omega (arith, from, lt, e));
}

-- the row is after a row with a lower id
pub between_later : (rows : List Row) (id low high middle : ℕ) (x : Row) → RowsRise rows → middle < high
    → slice_get rows middle ≡ Some x → x.id < id → IsBetween rows id low high → IsBetween rows id (middle + 1) high
between_later rows id low high middle x rise before here less was = record {
  ordered = omega (arith, before);
  within = was.within;
  below = λ k d lt.
      let there = ap (λ (r : Row). r.id) (get_or_from_slice_get rows middle x d here) in
      let inside : middle < length rows = omega (arith, before, was.within) in
      elim (cases_eq k middle) [
        | inl e ↦ let same = ap (λ n. (get_or rows n d).id) e in omega (arith, same, there, less)
        | inr ne ↦ let rising = ids_rise rows rise k middle d (omega (arith, lt, ne)) inside in
            omega (arith, rising, there, less)
      ];
  above = was.above;
}

-- the row isn't after a row whose id isn't lower
pub between_earlier : (rows : List Row) (id low high middle : ℕ) (x : Row) → RowsRise rows → low ≤ middle
    → middle < high → slice_get rows middle ≡ Some x → id ≤ x.id → IsBetween rows id low high
    → IsBetween rows id low middle
between_earlier rows id low high middle x rise from before here more was = record {
  ordered = from;
  within = omega (arith, before, was.within);
  below = was.below;
  above = λ k d on lt.
      let there = ap (λ (r : Row). r.id) (get_or_from_slice_get rows middle x d here) in
      elim (cases_eq k middle) [
        | inl e ↦ let same = ap (λ n. (get_or rows n d).id) e in omega (arith, same, there, more)
        | inr ne ↦ let rising = ids_rise rows rise middle k d (omega (arith, on, ne)) lt in
            omega (arith, rising, there, more)
      ];
}

-- if both bounds meet, the row is there
pub place_met : (rows : List Row) (id low high : ℕ) → RowsRise rows → high ≤ low → IsBetween rows id low high
    → (k : ℕ) (d : Row) → k < length rows → (get_or rows k d).id ≡ id → low ≡ k
place_met rows id low high rise met was k d lt same = elim (cases_lt k low) [
  | inl less ↦ let under = was.below k d less in absurd (omega (arith, under, same))
  | inr from ↦ elim (cases_eq low k) [
    | inl e ↦ e
    | inr ne ↦ absurd (
        let inside : low < length rows = omega (arith, from, ne, lt) in
        let first = was.above low d met inside in
        let rising = ids_rise rows rise low k d (omega (arith, from, ne)) lt in
        omega (arith, first, rising, same))
  ]
]
