-- Entries of rows, in the order of the rows and sorted.
use Rattle.std.proofs.Common.{◌≡◌, ◌⊎◌, ◌&&◌, ◌<◌, ◌+◌, ℕ, Bool, true, false, cond, not, List, [], ◌∷◌, ◌++◌, length, map, take, get_or, All, Option, Some, inl, inr, refl, sym, ap, subst, ◌∙◌, arith, append-nil}
use Rattle.std.specs.Prelude.{filter, slice_get, IsPermutation, IsSortedByKey}
use Rattle.std.specs.Bool.{Decides}
use Rattle.std.specs.List.{AllZip}
use Rattle.std.specs.List.Sorted.{IsStableByKey, ties}
use Rattle.std.specs.Ordering.{is_lt}
use Rattle.std.proofs.lemmas.Bool.Decides.{same_from_decides}
use Rattle.std.proofs.lemmas.List.{length-map, take_more}
use Rattle.std.proofs.lemmas.List.Elements.{All-cons, All-head, All-tail, All-nil, filter-append}
use Rattle.std.proofs.lemmas.List.Sorted.{All-permutation, ranks_by, sorted_far}
use Rattle.std.proofs.lemmas.Option.{get_or_from_slice_get, slice_get_within}
use Rattle.std.proofs.lemmas.Slice.Zip.{all_zipped_more}
use Rattle.row_core.specs.ValueOrder.{same_maybe, value_cmp}
use Rattle.row_core.specs.declared.row.Row.{Row}
use Rattle.row_core.specs.declared.value.Value.{Value}
use Rattle.row_core.proofs.ValueLemmas.{maybe_decides, value_total}
use Rattle.agg_core.specs.declared.entries.Entry.{Entry}
use Rattle.work_core.specs.declared.range.Range.{Range}
use Rattle.agg_core.specs.Groups.{rows_of_group}
use Rattle.agg_core.specs.Entries.{AreEntries, AreEntriesSorted, AreInGroups, HaveRows, IsEntry, entry_row, entry_value, no_row, value_at_place}
use Rattle.agg_core.specs.KeyRanges.{in_range, rows_in_range}
use Rattle.agg_core.proofs.OrderLemmas.{not_after, not_after-from, value_lt}

-- ---- two lists in parallel

-- one more element of each list
pub AllZip-more : {A B : Type 0} (R : A → B → Type 0) (xs : List A) (i : ℕ) (x : A) (ys new : List B) (y : B)
    → i < length xs → x ≡ get_or xs i x → new ≡ ys ++ y ∷ [] → R x y → AllZip R (take i xs) ys
    → AllZip R (take (i + 1) xs) new
AllZip-more {A} {B} R xs i x ys new y inside at put r all =
    subst (λ (l : List A). AllZip R l new)
    (sym (take_more xs i x inside ∙ ap (λ (z : A). take i xs ++ z ∷ []) (sym at)))
    (subst (AllZip R (take i xs ++ x ∷ [])) (sym put) (all_zipped_more R (take i xs) ys x y all r))

-- ---- entries of rows

module _ {K : Type 0} (value_of : K → Value) (all : List Row) where
  -- An entry's row has the entry's value.
  abbrev IsKept : ℕ → Entry K → Type 0
  IsKept place e = slice_get (entry_row all e).values place ≡ Some (entry_value value_of e)

  -- the row of an entry
  row_there : (place : ℕ) (r : Row) (e : Entry K) → IsEntry value_of all place r e → entry_row all e ≡ r
  row_there place r e is = get_or_from_slice_get all e.row r no_row is.row_is

  -- each entry has its row's value
  entries_kept : (place : ℕ) (rows : List Row) (es : List (Entry K)) → AreEntries value_of all place rows es
      → All (IsKept place) es
  entries_kept place [] [] are = All-nil (IsKept place)
  entries_kept place [] (e ∷ es) are = absurd are
  entries_kept place (r ∷ rows) [] are = absurd are
  entries_kept place (r ∷ rows) (e ∷ es) are =
      All-cons (IsKept place) e es
      (ap (λ (x : Row). slice_get x.values place) (row_there place r e are.0) ∙ are.0.value_is)
      (entries_kept place rows es are.1)

  -- each entry has a row
  pub entries_there : (place : ℕ) (rows : List Row) (es : List (Entry K)) → AreEntries value_of all place rows es
      → HaveRows all es
  entries_there place [] [] are = All-nil (λ (e : Entry K). e.row < length all)
  entries_there place [] (e ∷ es) are = absurd are
  entries_there place (r ∷ rows) [] are = absurd are
  entries_there place (r ∷ rows) (e ∷ es) are =
      All-cons (λ (x : Entry K). x.row < length all) e es (slice_get_within all e.row r are.0.row_is)
      (entries_there place rows es are.1)

  -- the rows of the entries are the rows
  pub rows_in_entries : (place : ℕ) (rows : List Row) (es : List (Entry K)) → AreEntries value_of all place rows es
      → map (entry_row all) es ≡ rows
  rows_in_entries place [] [] are = refl
  rows_in_entries place [] (e ∷ es) are = absurd are
  rows_in_entries place (r ∷ rows) [] are = absurd are
  rows_in_entries place (r ∷ rows) (e ∷ es) are =
      ap (λ (x : Row). x ∷ map (entry_row all) es) (row_there place r e are.0)
      ∙ ap (λ l. r ∷ l) (rows_in_entries place rows es are.1)

  -- their rows are of their values' groups
  pub grouped_entries : (place : ℕ) (rows : List Row) (es : List (Entry K)) → AreEntries value_of all place rows es
      → AreInGroups value_of all (value_at_place (Some place)) es
  grouped_entries place rows es are = entries_kept place rows es are

  -- the number of entries is the number of rows
  pub length-entries : (place : ℕ) (rows : List Row) (es : List (Entry K)) → AreEntries value_of all place rows es
      → length es ≡ length rows
  length-entries place rows es are =
      sym (length-map es (entry_row all)) ∙ ap length (rows_in_entries place rows es are)

  -- one more row, and its entry if its value is within the range
  rows_in_range-more : (group_of : Row → Option Value) (range : Range K) (rows : List Row) (i : ℕ) (row : Row)
      → i < length rows → row ≡ get_or rows i row
      → rows_in_range value_of group_of range (take (i + 1) rows)
      ≡ rows_in_range value_of group_of range (take i rows) ++ cond (in_range value_of range (group_of row))
      (row ∷ []) []
  rows_in_range-more group_of range rows i row inside at =
      ap (rows_in_range value_of group_of range)
      (take_more rows i row inside ∙ ap (λ (z : Row). take i rows ++ z ∷ []) (sym at))
      ∙ filter-append (λ (r : Row). in_range value_of range (group_of r)) (take i rows) (row ∷ [])

  -- one more entry, for a row within the range
  pub entry_more : (place : ℕ) (range : Range K) (rows : List Row) (i : ℕ) (row : Row) (es new : List (Entry K))
      (e : Entry K)
      → i < length rows → row ≡ get_or rows i row → in_range value_of range (value_at_place (Some place) row) ≡ true
      → new ≡ es ++ e ∷ [] → IsEntry value_of all place row e
      → AreEntries value_of all place (rows_in_range value_of (value_at_place (Some place)) range (take i rows)) es
      → AreEntries value_of all place (rows_in_range value_of (value_at_place (Some place)) range (take (i + 1) rows))
      new
  entry_more place range rows i row es new e inside at within put is are =
      let before = rows_in_range value_of (value_at_place (Some place)) range (take i rows) in
      subst (λ (l : List Row). AreEntries value_of all place l new)
      (sym (rows_in_range-more (value_at_place (Some place)) range rows i row inside at
      ∙ ap (λ b. before ++ cond b (row ∷ []) []) within))
      (subst (AreEntries value_of all place (before ++ row ∷ [])) (sym put)
      (all_zipped_more (IsEntry value_of all place) before es row e are is))

  -- no entry for a row outside the range
  pub entry_same : (place : ℕ) (range : Range K) (rows : List Row) (i : ℕ) (row : Row) (es : List (Entry K))
      → i < length rows → row ≡ get_or rows i row → in_range value_of range (value_at_place (Some place) row) ≡ false
      → AreEntries value_of all place (rows_in_range value_of (value_at_place (Some place)) range (take i rows)) es
      → AreEntries value_of all place (rows_in_range value_of (value_at_place (Some place)) range (take (i + 1) rows))
      es
  entry_same place range rows i row es inside at without are =
      let before = rows_in_range value_of (value_at_place (Some place)) range (take i rows) in
      subst (λ (l : List Row). AreEntries value_of all place l es)
      (sym (rows_in_range-more (value_at_place (Some place)) range rows i row inside at
      ∙ ap (λ b. before ++ cond b (row ∷ []) []) without ∙ append-nil before)) are

-- ---- filters

-- mapping a list to which an element may be added
cond-map : {A B : Type 0} (f : A → B) (x : A) (b : Bool) (xs : List A) (ys : List B) → ys ≡ map f xs
    → cond b (f x ∷ ys) ys ≡ map f (cond b (x ∷ xs) xs)
cond-map f x true xs ys e = ap (λ l. f x ∷ l) e
cond-map f x false xs ys e = e

-- filtering a mapped list is mapping a filtered list
pub filter-map : {A B : Type 0} (f : A → B) (p : B → Bool) (xs : List A)
    → filter p (map f xs) ≡ map f (filter (λ x. p (f x)) xs)
filter-map f p [] = refl
filter-map f p (x ∷ xs) =
    cond-map f x (p (f x)) (filter (λ y. p (f y)) xs) (filter p (map f xs)) (filter-map f p xs)

-- two tests that agree on a list keep the same elements
filter_alike : {A : Type 0} (p q : A → Bool) (xs : List A) → All (λ x. p x ≡ q x) xs → filter p xs ≡ filter q xs
filter_alike p q [] all = refl
filter_alike p q (x ∷ xs) all =
    ap (λ b. cond b (x ∷ filter p xs) (filter p xs)) (All-head (λ y. p y ≡ q y) x xs all)
    ∙ ap (λ l. cond (q x) (x ∷ l) l) (filter_alike p q xs (All-tail (λ y. p y ≡ q y) x xs all))

-- the filtered list is empty, or some element passes
filter_first : {A : Type 0} (p : A → Bool) (xs : List A) → (filter p xs ≡ []) ⊎ ((x : A) × (p x ≡ true))
filter_first p [] = inl refl
filter_first {A} p (x ∷ xs) = split (p x) refl (filter_first p xs)
  where
    split : (b : Bool) → p x ≡ b → (filter p xs ≡ []) ⊎ ((k : A) × (p k ≡ true))
        → (filter p (x ∷ xs) ≡ []) ⊎ ((k : A) × (p k ≡ true))
    split true e rest = inr (x, e)
    split false e (inr f) = inr f
    split false e (inl f) = inl (ap (λ c. cond c (x ∷ filter p xs) (filter p xs)) e ∙ f)

-- ---- entries of one value, after a stable sort

-- if both are negated, both are false
neither : (p q : Bool) → not p && not q ≡ true → (p ≡ false) × (q ≡ false)
neither true q e = cc
neither false true e = cc
neither false false e = (refl, refl)

module _ {K : Type 0} (value_of : K → Value) where
  -- The entry is of the group.
  abbrev in_group : Option Value → Entry K → Bool
  in_group group e = same_maybe (Some (entry_value value_of e)) group

  -- two entries compare as equal if they are of one group
  tie_decides : (x m : Entry K)
      → Decides (ties (value_lt value_of) x m) (Some (entry_value value_of m) ≡ Some (entry_value value_of x))
  tie_decides x m = (
    λ e. (let n = neither (value_lt value_of x m) (value_lt value_of m x) e in
        elim (not_after (Some (entry_value value_of m)) (Some (entry_value value_of x)) n.0) [
          | inl less ↦ absurd (let bad : true ≡ false = ap is_lt (sym less) ∙ n.1 in cc)
          | inr same ↦ same
        ]),
    λ e. ap (λ t. not t && not (value_lt value_of m x))
        (not_after-from (Some (entry_value value_of m)) (Some (entry_value value_of x)) (inr e))
        ∙ ap (λ t. not t) (not_after-from (Some (entry_value value_of x)) (Some (entry_value value_of m))
        (inr (sym e))),
  )

  -- entries compare as equal to the entries of their group
  tie_is : (x m : Entry K) → ties (value_lt value_of) x m ≡ in_group (Some (entry_value value_of x)) m
  tie_is x m =
      same_from_decides (ties (value_lt value_of) x m) (in_group (Some (entry_value value_of x)) m) (tie_decides x m)
      (maybe_decides (Some (entry_value value_of m)) (Some (entry_value value_of x)))

  -- the entries of a group keep their order
  group_stable : (old new : List (Entry K)) → IsStableByKey (entry_value value_of) value_cmp old new
      → (group : Option Value)
      → filter (in_group group) new ≡ filter (in_group group) old
  group_stable old new stable group = elim (filter_first (in_group group) new) [
    | inr f ↦ by f.0 ((maybe_decides (Some (entry_value value_of f.0)) group).0 f.1)
    | inl none ↦ elim (filter_first (in_group group) old) [
      | inr f ↦ by f.0 ((maybe_decides (Some (entry_value value_of f.0)) group).0 f.1)
      | inl also ↦ none ∙ sym also
    ]
  ]
    where
      tied : (x : Entry K) (zs : List (Entry K)) → Some (entry_value value_of x) ≡ group
          → filter (in_group group) zs ≡ filter (ties (value_lt value_of) x) zs
      tied x zs e =
          filter_alike (in_group group) (ties (value_lt value_of) x) zs
          (λ k d h. ap (λ (v : Option Value). in_group v (get_or zs k d)) (sym e) ∙ sym (tie_is x (get_or zs k d)))

      by : (x : Entry K) → Some (entry_value value_of x) ≡ group
          → filter (in_group group) new ≡ filter (in_group group) old
      by x e = tied x new e ∙ stable x ∙ sym (tied x old e)

  -- a group's rows are the rows of its entries
  group_rows : (all : List Row) (group_of : Row → Option Value) (group : Option Value) (es : List (Entry K))
      → AreInGroups value_of all group_of es
      → rows_of_group group_of group (map (entry_row all) es) ≡ map (entry_row all) (filter (in_group group) es)
  group_rows all group_of group es grouped =
      filter-map (entry_row all) (λ (r : Row). same_maybe (group_of r) group) es
      ∙ ap (map (entry_row all))
      (filter_alike (λ (e : Entry K). same_maybe (group_of (entry_row all e)) group) (in_group group) es
      (λ k d h. ap (λ (v : Option Value). same_maybe v group) (grouped k d h)))

  -- entries after a stable sort
  pub entries_sorted : (old new : List (Entry K)) → IsPermutation old new
      → IsSortedByKey (entry_value value_of) value_cmp new → IsStableByKey (entry_value value_of) value_cmp old new
      → AreEntriesSorted value_of old new
  entries_sorted old new moved sorted stable = record {
    rise = λ i j d below inside.
        sorted_far (value_lt value_of) (ranks_by value_total (entry_value value_of)) new sorted i j d (omega arith)
        inside;
    moved = moved;
    kept = λ all group_of grouped group.
        group_rows all group_of group new
        (All-permutation (λ (e : Entry K). group_of (entry_row all e) ≡ Some (entry_value value_of e)) old new moved
        grouped)
        ∙ ap (map (entry_row all)) (group_stable old new stable group)
        ∙ sym (group_rows all group_of group old grouped);
  }
