-- The aggregate of rows, from the aggregates of two partitions without a common group.
use Rattle.std.proofs.Common.{◌≡◌, ◌⊎◌, ℕ, ℤ, Bool, true, false, cond, not, ◌&&◌, List, [], ◌∷◌, ◌++◌, map, Option, None, Some, Result, Ok, inl, inr, refl, sym, ap, subst, ◌∙◌, append-nil}
use Rattle.std.specs.Prelude.{filter, option_map, Contains}
use Rattle.std.specs.declared.cmp.Ordering.{Ordering}
use Rattle.std.specs.declared.cmp.Ordering.TheVariants.{Less, Equal, Greater}
use Rattle.std.specs.Ordering.{int_cmp, is_lt, ordering_then}
use Rattle.std.specs.declared.alloc.AllocError.{AllocError}
use Rattle.std.proofs.lemmas.Cmp.{tied_itself}
use Rattle.std.proofs.lemmas.List.Elements.{All-contains, Contains-append_cases, filter-append, filter_passes}
use Rattle.std.proofs.lemmas.List.Sorted.{All-permutation}
use Rattle.row_core.specs.ValueOrder.{maybe_cmp, same_maybe}
use Rattle.row_core.specs.declared.row.Row.{Row}
use Rattle.row_core.specs.declared.value.Value.{Value}
use Rattle.row_core.proofs.ValueLemmas.{maybe_decides, maybe_total}
use Rattle.dip_core.specs.declared.item.Item.{Item}
use Rattle.list_core.proofs.RisingLemmas.{Contains-cons, Contains-head}
use Rattle.list_core.proofs.WantedLemmas.{IsListOf-append, IsListOf-same}
use Rattle.work_core.specs.Ranges.{has, has_begun, has_ended, is_from, range}
use Rattle.work_core.specs.Shares.{Gives, GivesFrom}
use Rattle.work_core.specs.declared.range.Range.{Range}
use Rattle.work_core.specs.declared.shares.Cut.{Cut}
use Rattle.work_core.proofs.RangeLemmas.{high_has, low_has}
use Rattle.work_core.proofs.ShareLemmas.{all_come}
use Rattle.merge_core.specs.Gaps.{IsMaximal}
use Rattle.round_core.specs.declared.measure.Measure.{Measure}
use Rattle.agg_core.specs.declared.entries.Entry.{Entry}
use Rattle.agg_core.specs.declared.rows.AggRow.{AggRow}
use Rattle.agg_core.specs.Agg.{AreAggRows, HoldAndComeTo, IsAggRow}
use Rattle.agg_core.specs.Groups.{AggRowBefore, rows_of_group}
use Rattle.agg_core.specs.Entries.{AreEntries, AreEntriesSorted, AreInGroups, entry_row, entry_value, value_at_place}
use Rattle.agg_core.specs.Grouping.{AreItemsByGroup, ArePlateauRows, GroupBefore}
use Rattle.agg_core.specs.KeyRanges.{group_of_key, in_range, rows_in_range}
use Rattle.agg_core.specs.Shares.{rows_in, rows_in_shares}
use Rattle.agg_core.specs.declared.rows.AggShare.{AggShare}
use Rattle.agg_core.proofs.EntryLemmas.{grouped_entries, rows_in_entries}
use Rattle.agg_core.proofs.GroupLemmas.{grouping_of}
use Rattle.agg_core.proofs.OrderLemmas.{AreOrdered, not_after}
use Rattle.agg_core.proofs.PlateauLemmas.{answer_of, row_of_group}

-- ---- rows of a group

-- if no element passes the test, the filtered list is empty
none_pass : {A : Type 0} (p : A → Bool) (xs : List A) → ((x : A) → Contains xs x → p x ≡ false) → filter p xs ≡ []
none_pass p [] fails = refl
none_pass p (x ∷ xs) fails =
    ap (λ b. cond b (x ∷ filter p xs) (filter p xs)) (fails x (Contains-head x xs))
    ∙ none_pass p xs (λ y h. fails y (Contains-cons x xs y h))

-- a row of the aggregate of some rows is a row of another's if its group has the same rows there
same_rows : (measure : Measure) (amount_of : Row → ℤ) (group_of : Row → Option Value) (some other : List Row)
    (row : AggRow) → rows_of_group group_of row.group some ≡ rows_of_group group_of row.group other
    → IsAggRow measure amount_of group_of some row → IsAggRow measure amount_of group_of other row
same_rows measure amount_of group_of some other row same is = record {
  maximal =
      subst (λ (l : List Row). IsMaximal (HoldAndComeTo measure amount_of l row.value) row.period) same is.maximal;
}

-- rows that are equal group by group have the same aggregate
same_answer : (measure : Measure) (amount_of : Row → ℤ) (group_of : Row → Option Value) (some other : List Row)
    (answer : List AggRow)
    → ((group : Option Value) → rows_of_group group_of group some ≡ rows_of_group group_of group other)
    → AreAggRows measure amount_of group_of some answer → AreAggRows measure amount_of group_of other answer
same_answer measure amount_of group_of some other answer same all =
    IsListOf-same AggRowBefore (IsAggRow measure amount_of group_of some) (IsAggRow measure amount_of group_of other) answer
    (λ row. same_rows measure amount_of group_of some other row (same row.group))
    (λ row. same_rows measure amount_of group_of other some row (sym (same row.group))) all

-- ---- two partitions

-- the test is false for groups that aren't equal
other_group : (a b : Option Value) → (a ≡ b → ⊥) → same_maybe a b ≡ false
other_group a b other = by_test (same_maybe a b) refl where
  by_test : (t : Bool) → same_maybe a b ≡ t → same_maybe a b ≡ false
  by_test true e = absurd (other ((maybe_decides a b).0 e))
  by_test false e = e

-- no group comes before itself
before_itself : (a b : Option Value) → GroupBefore a b → a ≡ b → ⊥
before_itself a b less e =
    let bad : Less ≡ Equal = sym less ∙ ap (λ (v : Option Value). maybe_cmp v b) e ∙ tied_itself maybe_total b in cc

-- Each group of some rows comes before each group of others.
abbrev AreApart : (Row → Option Value) → List Row → List Row → Type 0
AreApart group_of low high =
    (a b : Row) → Contains low a → Contains high b → GroupBefore (group_of a) (group_of b)

module _ (measure : Measure) (amount_of : Row → ℤ) (group_of : Row → Option Value) (low high : List Row)
    (apart : AreApart group_of low high) where
  -- a group of the lower rows has no row among the higher ones
  low_alone : (a : Row) → Contains low a → rows_of_group group_of (group_of a) high ≡ []
  low_alone a here =
      none_pass (λ (r : Row). same_maybe (group_of r) (group_of a)) high
      (λ r there.
      other_group (group_of r) (group_of a) (λ same. before_itself (group_of a) (group_of r) (apart a r here there)
      (sym same)))

  -- nor has a group of the higher rows one among the lower ones
  high_alone : (b : Row) → Contains high b → rows_of_group group_of (group_of b) low ≡ []
  high_alone b here =
      none_pass (λ (r : Row). same_maybe (group_of r) (group_of b)) low
      (λ r there.
      other_group (group_of r) (group_of b) (λ same. before_itself (group_of r) (group_of b) (apart r b there here)
      same))

  -- all rows of a lower row's group are lower rows
  low_rows : (a : Row) → Contains low a
      → rows_of_group group_of (group_of a) (low ++ high) ≡ rows_of_group group_of (group_of a) low
  low_rows a here =
      filter-append (λ (r : Row). same_maybe (group_of r) (group_of a)) low high
      ∙ ap (λ l. rows_of_group group_of (group_of a) low ++ l) (low_alone a here)
      ∙ append-nil (rows_of_group group_of (group_of a) low)

  -- and all rows of a higher row's group are higher rows
  high_rows : (b : Row) → Contains high b
      → rows_of_group group_of (group_of b) (low ++ high) ≡ rows_of_group group_of (group_of b) high
  high_rows b here =
      filter-append (λ (r : Row). same_maybe (group_of r) (group_of b)) low high
      ∙ ap (λ l. l ++ rows_of_group group_of (group_of b) high) (high_alone b here)

  -- a row of the aggregate of all rows is a row of one partition's aggregate
  wanted_of_one : (row : AggRow) → IsAggRow measure amount_of group_of (low ++ high) row
      → IsAggRow measure amount_of group_of low row ⊎ IsAggRow measure amount_of group_of high row
  wanted_of_one row is =
      let (r, there, same) = row_of_group measure amount_of group_of (low ++ high) row is in
      elim (Contains-append_cases low high r there) [
        | inl first ↦
            inl (same_rows measure amount_of group_of (low ++ high) low row
            (subst (λ (g : Option Value). rows_of_group group_of g (low ++ high) ≡ rows_of_group group_of g low) same
            (low_rows r first)) is)
        | inr later ↦
            inr (same_rows measure amount_of group_of (low ++ high) high row
            (subst (λ (g : Option Value). rows_of_group group_of g (low ++ high) ≡ rows_of_group group_of g high) same
            (high_rows r later)) is)
      ]

  -- a row of the lower partition's aggregate is a row of the whole aggregate
  wanted_of_low : (row : AggRow) → IsAggRow measure amount_of group_of low row
      → IsAggRow measure amount_of group_of (low ++ high) row
  wanted_of_low row is =
      let (r, there, same) = row_of_group measure amount_of group_of low row is in
      same_rows measure amount_of group_of low (low ++ high) row
      (subst (λ (g : Option Value). rows_of_group group_of g low ≡ rows_of_group group_of g (low ++ high)) same
      (sym (low_rows r there))) is

  -- so is a row of the higher partition's aggregate
  wanted_of_high : (row : AggRow) → IsAggRow measure amount_of group_of high row
      → IsAggRow measure amount_of group_of (low ++ high) row
  wanted_of_high row is =
      let (r, there, same) = row_of_group measure amount_of group_of high row is in
      same_rows measure amount_of group_of high (low ++ high) row
      (subst (λ (g : Option Value). rows_of_group group_of g high ≡ rows_of_group group_of g (low ++ high)) same
      (sym (high_rows r there))) is

  -- the lower partition's rows come before the others
  shares_before : (x y : AggRow) → IsAggRow measure amount_of group_of low x
      → IsAggRow measure amount_of group_of high y → AggRowBefore x y
  shares_before x y is is' =
      let (r, there, same) = row_of_group measure amount_of group_of low x is in
      let (r', there', same') = row_of_group measure amount_of group_of high y is' in
      ap (λ (o : Ordering). ordering_then o (int_cmp x.period.from y.period.from))
      (subst (λ (g : Option Value). maybe_cmp g y.group ≡ Less) same
      (subst (λ (g : Option Value). maybe_cmp (group_of r) g ≡ Less) same' (apart r r' there there')))

  -- the aggregates of both partitions
  both_shares : (rows more : List AggRow) → AreAggRows measure amount_of group_of low rows
      → AreAggRows measure amount_of group_of high more
      → AreAggRows measure amount_of group_of (low ++ high) (rows ++ more)
  both_shares rows more one other =
      IsListOf-append AggRowBefore (IsAggRow measure amount_of group_of low) (IsAggRow measure amount_of group_of high)
      (IsAggRow measure amount_of group_of (low ++ high)) rows more one other shares_before wanted_of_low wanted_of_high
      wanted_of_one

-- ---- the order of groups

-- a negated test is false
denied : (t : Bool) → not t ≡ true → t ≡ false
denied true e = cc
denied false e = refl

-- a group that doesn't reach another one comes before it
known_before : (a b : Option Value) → is_from maybe_cmp b a ≡ false → GroupBefore a b
known_before a b e = by_cmp (maybe_cmp a b) refl e where
  by_cmp : (o : Ordering) → maybe_cmp a b ≡ o → not (is_lt o) ≡ false → GroupBefore a b
  by_cmp Less c t = c
  by_cmp Equal c t = cc
  by_cmp Greater c t = cc

-- a group before another one is before each group that doesn't come before the latter
before_from : (a b c : Option Value) → GroupBefore a b → is_from maybe_cmp b c ≡ true → GroupBefore a c
before_from a b c less from = elim (not_after b c (denied (is_lt (maybe_cmp c b)) from)) [
  | inl more ↦ maybe_total.trans a b c less more
  | inr same ↦ subst (λ (v : Option Value). maybe_cmp a v ≡ Less) same less
]

-- ---- partitions by value

-- a test that all elements passing another test pass removes none of these
pub keep_all : {A : Type 0} (p t : A → Bool) (xs : List A) → ((x : A) → Contains xs x → t x ≡ true → p x ≡ true)
    → filter t (filter p xs) ≡ filter t xs
keep_all p t [] all = refl
keep_all p t (x ∷ xs) all = split (p x) (t x) refl refl (keep_all p t xs (λ y h. all y (Contains-cons x xs y h)))
  where
    split : (b c : Bool) → p x ≡ b → t x ≡ c → filter t (filter p xs) ≡ filter t xs
        → filter t (cond b (x ∷ filter p xs) (filter p xs)) ≡ cond c (x ∷ filter t xs) (filter t xs)
    split true true e f rest =
        ap (λ z. cond z (x ∷ filter t (filter p xs)) (filter t (filter p xs))) f ∙ ap (λ l. x ∷ l) rest
    split true false e f rest =
        ap (λ z. cond z (x ∷ filter t (filter p xs)) (filter t (filter p xs))) f ∙ rest
    split false true e f rest =
        absurd (let bad : true ≡ false = sym (all x (Contains-head x xs) f) ∙ e in cc)
    split false false e f rest = rest

-- a test that no element passing another test passes removes all of these
keep_none : {A : Type 0} (p t : A → Bool) (xs : List A) → ((x : A) → Contains xs x → t x ≡ true → p x ≡ false)
    → filter t (filter p xs) ≡ []
keep_none p t [] none = refl
keep_none p t (x ∷ xs) none =
    split (p x) (t x) refl refl (keep_none p t xs (λ y h. none y (Contains-cons x xs y h)))
  where
    split : (b c : Bool) → p x ≡ b → t x ≡ c → filter t (filter p xs) ≡ []
        → filter t (cond b (x ∷ filter p xs) (filter p xs)) ≡ []
    split true true e f rest =
        absurd (let bad : true ≡ false = sym e ∙ none x (Contains-head x xs) f in cc)
    split true false e f rest =
        ap (λ z. cond z (x ∷ filter t (filter p xs)) (filter t (filter p xs))) f ∙ rest
    split false c e f rest = rest

module _ (group_of : Row → Option Value) (rows : List Row) (v : Option Value) where
  low_of : Row → Bool
  low_of row = not (is_from maybe_cmp v (group_of row))

  high_of : Row → Bool
  high_of row = is_from maybe_cmp v (group_of row)

  -- a row of a group is in the group's partition
  on_side : (group : Option Value) (row : Row) → same_maybe (group_of row) group ≡ true
      → is_from maybe_cmp v (group_of row) ≡ is_from maybe_cmp v group
  on_side group row same = ap (is_from maybe_cmp v) ((maybe_decides (group_of row) group).0 same)

  -- a group's rows are the same, partition by partition
  same_group : (group : Option Value)
      → rows_of_group group_of group (filter low_of rows ++ filter high_of rows) ≡ rows_of_group group_of group rows
  unfolding low_of high_of
  same_group group = filter-append mine (filter low_of rows) (filter high_of rows) ∙ split (is_from maybe_cmp v group) refl
    where
      mine : Row → Bool
      mine row = same_maybe (group_of row) group

      split : (b : Bool) → is_from maybe_cmp v group ≡ b
          → filter mine (filter low_of rows) ++ filter mine (filter high_of rows) ≡ filter mine rows
      split false is =
          ap (λ l. l ++ filter mine (filter high_of rows))
          (keep_all low_of mine rows (λ r h same. ap not (on_side group r same ∙ is)))
          ∙ ap (λ l. filter mine rows ++ l)
          (keep_none high_of mine rows (λ r h same. on_side group r same ∙ is))
          ∙ append-nil (filter mine rows)
      split true is =
          ap (λ l. l ++ filter mine (filter high_of rows))
          (keep_none low_of mine rows (λ r h same. ap not (on_side group r same ∙ is)))
          ∙ keep_all high_of mine rows (λ r h same. on_side group r same ∙ is)

  -- the groups of both partitions are apart
  values_apart : AreApart group_of (filter low_of rows) (filter high_of rows)
  unfolding low_of high_of
  values_apart a b here there =
      let p : is_from maybe_cmp v (group_of a) ≡ false =
      denied (is_from maybe_cmp v (group_of a))
      (All-contains (λ (r : Row). low_of r ≡ true) (filter low_of rows) a (filter_passes low_of rows) here) in
      let q : is_from maybe_cmp v (group_of b) ≡ true =
      All-contains (λ (r : Row). high_of r ≡ true) (filter high_of rows) b (filter_passes high_of rows) there in
      before_from (group_of a) v (group_of b) (known_before (group_of a) v p) q

-- ---- partitions by range

-- filtering twice is filtering by both tests
filter_twice : {A : Type 0} (p q : A → Bool) (xs : List A) → filter q (filter p xs) ≡ filter (λ x. p x && q x) xs
filter_twice p q [] = refl
filter_twice p q (x ∷ xs) = split (p x) (filter_twice p q xs)
  where
    split : (b : Bool) → filter q (filter p xs) ≡ filter (λ x. p x && q x) xs
        → filter q (cond b (x ∷ filter p xs) (filter p xs))
        ≡ cond (b && q x) (x ∷ filter (λ x. p x && q x) xs) (filter (λ x. p x && q x) xs)
    split true rest = ap (λ l. cond (q x) (x ∷ l) l) rest
    split false rest = rest

module _ {K : Type 0} (value_of : K → Value) (cmp : K → K → Ordering) (ordered : AreOrdered value_of cmp) where
  -- a range has begun at a key exactly if the range of its groups has begun at the key's group
  begun_same : (from : Option K) (key : K)
      → has_begun cmp from key ≡ has_begun maybe_cmp (option_map (group_of_key value_of) from)
      (group_of_key value_of key)
  begun_same None key = refl
  begun_same (Some first) key = ap (λ o. not (is_lt o)) (ordered key first)

  -- and it has ended there exactly if the other one has
  ended_same : (end : Option K) (key : K)
      → has_ended cmp end key ≡ has_ended maybe_cmp (option_map (group_of_key value_of) end) (group_of_key value_of key)
  ended_same None key = refl
  ended_same (Some first) key = ap (λ o. not (is_lt o)) (ordered key first)

  -- a range contains a key exactly if the range of its groups contains the key's group
  pub has_same : (keys : Range K) (key : K) → has cmp keys key ≡ in_range value_of keys (group_of_key value_of key)
  has_same keys key =
      ap (λ b. b && not (has_ended cmp keys.before key)) (begun_same keys.from key)
      ∙ ap
      (λ b. has_begun maybe_cmp (option_map (group_of_key value_of) keys.from) (group_of_key value_of key) && not b)
      (ended_same keys.before key)

  -- the aggregate of a range without an end, from the aggregates of its values before a key and from the key on
  AreAggRows-ranges : (measure : Measure) (amount_of : Row → ℤ) (group_of : Row → Option Value) (from : Option K)
      (at : K) (rows : List Row) (answer more : List AggRow) → has_begun cmp from at ≡ true
      → AreAggRows measure amount_of group_of (rows_in_range value_of group_of (range from (Some at)) rows) answer
      → AreAggRows measure amount_of group_of (rows_in_range value_of group_of (range (Some at) None) rows) more
      → AreAggRows measure amount_of group_of (rows_in_range value_of group_of (range from None) rows) (answer ++ more)
  unfolding low_of high_of
  AreAggRows-ranges measure amount_of group_of from at rows answer more begun one other =
      let some = rows_in_range value_of group_of (range from None) rows in
      let v = group_of_key value_of at in
      let first = option_map (group_of_key value_of) from in
      let reached : has_begun maybe_cmp first v ≡ true = sym (begun_same from at) ∙ begun in
      let low : filter (low_of group_of some v) some ≡ rows_in_range value_of group_of (range from (Some at)) rows =
      filter_twice (λ (r : Row). in_range value_of (range from None) (group_of r)) (low_of group_of some v) rows
      ∙ sym (λ i. filter (λ (r : Row). low_has maybe_cmp maybe_total first v (group_of r) i) rows) in
      let high : filter (high_of group_of some v) some ≡ rows_in_range value_of group_of (range (Some at) None) rows =
      filter_twice (λ (r : Row). in_range value_of (range from None) (group_of r)) (high_of group_of some v) rows
      ∙ sym (λ i. filter (λ (r : Row). high_has maybe_cmp maybe_total first v (group_of r) reached i) rows) in
      same_answer measure amount_of group_of
      (filter (low_of group_of some v) some ++ filter (high_of group_of some v) some)
      some (answer ++ more) (same_group group_of some v)
      (both_shares measure amount_of group_of (filter (low_of group_of some v) some)
      (filter (high_of group_of some v) some) (values_apart group_of some v) answer more
      (subst (λ (l : List Row). AreAggRows measure amount_of group_of l answer) (sym low) one)
      (subst (λ (l : List Row). AreAggRows measure amount_of group_of l more) (sym high) other))

  -- a range without ends has all rows
  rows_in_range-all : (group_of : Row → Option Value) (rows : List Row)
      → rows_in_range value_of group_of (range None None) rows ≡ rows
  rows_in_range-all group_of [] = refl
  rows_in_range-all group_of (row ∷ rows) = ap (λ l. row ∷ l) (rows_in_range-all group_of rows)

  -- the aggregates of all ranges together are the aggregate of all rows
  pub rows-all : (measure : Measure) (amount_of : Row → ℤ) (group_of : Row → Option Value) (rows : List Row)
      (post : Range K → ℕ → Result AggShare AllocError → Type 0) (cuts : List (Cut K)) (shares : List AggShare)
      → ((keys : Range K) (n : ℕ) (share : AggShare) → post keys n (Ok share)
      → AreAggRows measure amount_of group_of (rows_in_range value_of group_of keys rows) (rows_in share))
      → GivesFrom cmp (Gives post) None cuts shares
      → AreAggRows measure amount_of group_of rows (rows_in_shares shares)
  rows-all measure amount_of group_of rows post cuts shares known given =
      subst (λ (l : List Row). AreAggRows measure amount_of group_of l (rows_in_shares shares))
      (rows_in_range-all group_of rows)
      (all_come cmp (Gives post)
      (λ (keys : Range K) (all : List AggShare).
      AreAggRows measure amount_of group_of (rows_in_range value_of group_of keys rows) (rows_in_shares all))
      (λ keys share own.
      subst (AreAggRows measure amount_of group_of (rows_in_range value_of group_of keys rows))
      (sym (append-nil (rows_in share)))
      (known keys own.0 share own.1))
      (λ from at share more begun one others.
      AreAggRows-ranges measure amount_of group_of from at rows (rows_in share) (rows_in_shares more) begun
      (known (range from (Some at)) one.0 share one.1) others)
      None cuts shares given)

-- ---- the aggregate of listed rows

-- the aggregate of rows, from the constant intervals of their sorted entries
pub answer_of_entries : {K : Type 0} (value_of : K → Value) (source : List Row) (measure : Measure)
    (amount_of : Row → ℤ) (place : ℕ) (rows : List Row) (made sorted : List (Entry K))
    (items : List Item) (groups : List (Option Value)) (answer : List AggRow)
    → AreEntries value_of source place rows made
    → AreEntriesSorted value_of made sorted → AreItemsByGroup value_of source amount_of sorted items groups
    → ArePlateauRows measure items groups answer
    → AreAggRows measure amount_of (value_at_place (Some place)) rows answer
answer_of_entries {K} value_of source measure amount_of place rows made sorted items groups answer are by_value
    numbered plateaus =
    let group_of = value_at_place (Some place) in
    let grouped : AreInGroups value_of source group_of made = grouped_entries value_of source place rows made are in
    let moved : AreInGroups value_of source group_of sorted =
    All-permutation (λ (e : Entry K). group_of (entry_row source e) ≡ Some (entry_value value_of e)) made sorted
    by_value.moved grouped in
    subst (λ (l : List Row). AreAggRows measure amount_of group_of l answer)
    (rows_in_entries value_of source place rows made are)
    (same_answer measure amount_of group_of (map (entry_row source) sorted) (map (entry_row source) made) answer
    (by_value.kept source group_of grouped)
    (answer_of measure amount_of group_of (map (entry_row source) sorted) items groups
    (grouping_of value_of source amount_of group_of sorted items groups moved numbered) answer plateaus))
