-- The rows of an aggregate are the rows of its groups' constant intervals.
use Rattle.std.proofs.Common.{rules, get_or, IsTrue, ◌≡◌, ◌<◌, ◌==◌, ℕ, ℤ, zero, suc, pos, Bool, true, List, [], ◌∷◌, length, map, All, Option, Some, None, inl, inr, refl, sym, ap, subst, ◌∙◌, arith}
use Rattle.std.specs.Prelude.{bytes_eq, filter, option_map, IfSome, slice_get, slice_index_or, ◌<ℤ◌, Contains}
use Rattle.std.specs.declared.cmp.Ordering.{Ordering}
use Rattle.std.specs.declared.cmp.Ordering.TheVariants.{Less}
use Rattle.std.specs.Ordering.{int_cmp, ordering_then}
use Rattle.std.proofs.lemmas.Bool.{and_parts}
use Rattle.std.proofs.lemmas.Bool.Decides.{Decides-eqb}
use Rattle.std.proofs.lemmas.List.Quantifiers.{position-Some}
use Rattle.row_core.specs.Schema.{fits}
use Rattle.row_core.specs.Value.{kind_of, same_kind}
use Rattle.row_core.specs.declared.value.Kind.{Kind}
use Rattle.std.proofs.lemmas.Cmp.{tied_itself}
use Rattle.std.proofs.lemmas.Int.{ints}
use Rattle.std.proofs.lemmas.List.{length-map}
use Rattle.std.proofs.lemmas.List.Elements.{All-contains}
use Rattle.std.proofs.lemmas.Option.{get_or_from_slice_get, slice_get-get_or}
use Rattle.period_core.specs.declared.period.Period.{Period}
use Rattle.period_core.specs.Period.{holds_at}
use Rattle.row_core.specs.ValueOrder.{maybe_cmp, same_maybe}
use Rattle.row_core.specs.declared.row.Row.{Row}
use Rattle.row_core.specs.declared.schema.Column.{Column}
use Rattle.row_core.specs.declared.value.Value.{Value}
use Rattle.row_core.proofs.ValueLemmas.{maybe_decides, maybe_total}
use Rattle.dip_core.specs.declared.item.Item.{Item}
use Rattle.list_core.proofs.MadeLemmas.{AllPairs-map, Contains-map, Contains-map_source}
use Rattle.list_core.proofs.RisingLemmas.{Contains-head}
use Rattle.merge_core.specs.declared.tally.Tally.{Tally}
use Rattle.merge_core.specs.Gaps.{IsMaximal}
use Rattle.merge_core.specs.Tallies.{IsTally, IsTallyAt, amounts, holding}
use Rattle.match_core.proofs.SentLemmas.{kept_in, kept_passes}
use Rattle.match_core.proofs.SplitClasses.{kind_is}
use Rattle.merge_core.proofs.SharedLemmas.{first_held}
use Rattle.merge_core.proofs.SweepLemmas.{IsMaximal-same}
use Rattle.round_core.specs.declared.measure.Measure.{Measure}
use Rattle.round_core.specs.declared.measure.Measure.TheVariants.{Count, Sum, Min, Max}
use Rattle.round_core.specs.declared.plateau.Plateau.{Plateau}
use Rattle.round_core.specs.Plateaus.{HasValue, IsPlateau, PlateauBefore, measured, of_class}
use Rattle.round_core.proofs.PlateauExistence.{some_tally}
use Rattle.agg_core.specs.declared.rows.AggRow.{AggRow}
use Rattle.row_core.specs.declared.func.Func.{Func}
use Rattle.agg_core.specs.Agg.{AreAggRows, ComeTo, HoldAndComeTo, IsAgg, IsAggRow, amount_in, measure_of, number_column, amount_of_value, rows_on, value_in}
use Rattle.agg_core.specs.Entries.{HaveValues, amount_at, place_in, value_at_place}
use Rattle.agg_core.specs.Groups.{AggRowBefore, rows_of_group}
use Rattle.agg_core.specs.Grouping.{ArePlateauRows, IsGrouping, agg_row_of, amount_item}
use Rattle.agg_core.proofs.EntryLemmas.{filter-map}

-- ---- values of items

-- if items have a value, there is an item
value_held : (measure : Measure) (items : List Item) (value t : ℤ) → HasValue measure items value t
    → (x : Item) × Contains items x
value_held measure items value t has =
    let (x, there, is) = Contains-map_source (λ (y : Item). y.amount) (holding items t) has.tally.min has.is.min_in in
    (x, kept_in (λ (y : Item). holds_at t y.period) items x there)

-- so there is in a period with a value
pub period_held : (measure : Measure) (items : List Item) (value : ℤ) (p : Period)
    → IsMaximal (HasValue measure items value) p → (x : Item) × Contains items x
period_held measure items value p maximal =
    value_held measure items value p.from (maximal.inside p.from (first_held p))

-- the amounts of items are the amounts of their rows
amounts-amount_item : (amount_of : Row → ℤ) (class : ℕ) (rows : List Row)
    → amounts (map (amount_item amount_of class) rows) ≡ map amount_of rows
amounts-amount_item amount_of class [] = refl
amounts-amount_item amount_of class (r ∷ rows) = ap (λ l. amount_of r ∷ l) (amounts-amount_item amount_of class rows)

-- the items that hold an instant are the items of the rows that do
holding-amount_item : (amount_of : Row → ℤ) (c : ℕ) (rows : List Row) (t : ℤ)
    → holding (map (amount_item amount_of c) rows) t ≡ map (amount_item amount_of c) (rows_on t rows)
holding-amount_item amount_of c rows t = filter-map (amount_item amount_of c) (λ (x : Item). holds_at t x.period) rows

-- so their amounts are the amounts of these rows
amounts_on : (amount_of : Row → ℤ) (c : ℕ) (rows : List Row) (t : ℤ)
    → amounts (holding (map (amount_item amount_of c) rows) t) ≡ map amount_of (rows_on t rows)
amounts_on amount_of c rows t =
    ap amounts (holding-amount_item amount_of c rows t) ∙ amounts-amount_item amount_of c (rows_on t rows)

-- ---- the values of rows

-- the measured value of a tally is the measure of the amounts
tally_comes : (measure : Measure) (items : List Item) (tally : Tally) → IsTally items tally
    → ComeTo measure (amounts items) (measured measure tally)
tally_comes Count items tally is =
    ap (λ n. pos n) (is.count ∙ sym (length-map items (λ (x : Item). x.amount)))
tally_comes Sum items tally is = is.sum
tally_comes Min items tally is = (is.min_in, is.min_least)
tally_comes Max items tally is = (is.max_in, is.max_greatest)

-- numbers have one measure
pub comes_once : (measure : Measure) (numbers : List ℤ) (v w : ℤ) → ComeTo measure numbers v → ComeTo measure numbers w
    → v ≡ w
comes_once Count numbers v w a b = a ∙ sym b
comes_once Sum numbers v w a b = a ∙ sym b
comes_once Min numbers v w a b = let f = a.1 w b.0 in let g = b.1 v a.0 in omega (arith, ints)
comes_once Max numbers v w a b = let f = a.1 w b.0 in let g = b.1 v a.0 in omega (arith, ints)

-- a list with an element isn't empty
some_inside : {X : Type 0} (xs : List X) (x : X) → Contains xs x → 0 < length xs
some_inside xs x (i, inside, e) = omega (arith, inside)

-- and vice versa
pub inside_some : {X : Type 0} (xs : List X) → 0 < length xs → (x : X) × Contains xs x
inside_some [] some = absurd (omega (arith, some))
inside_some (x ∷ xs) some = (x, Contains-head x xs)

module _ (measure : Measure) (amount_of : Row → ℤ) (c : ℕ) (rows : List Row) (value : ℤ) where
  -- the value of rows as items is the value of the rows
  rows_come : (t : ℤ) → HasValue measure (map (amount_item amount_of c) rows) value t
      → HoldAndComeTo measure amount_of rows value t
  rows_come t has =
      let same = amounts_on amount_of c rows t in
      let (r, there, is) = Contains-map_source amount_of (rows_on t rows) has.tally.min
      (subst (λ l. Contains l has.tally.min) same has.is.min_in) in
      record {
        some = some_inside (rows_on t rows) r there;
        is =
            subst (ComeTo measure (map amount_of (rows_on t rows))) has.gives
            (subst (λ l. ComeTo measure l (measured measure has.tally)) same
            (tally_comes measure (holding (map (amount_item amount_of c) rows) t) has.tally has.is));
      }

  -- the value of rows is the value of the rows as items
  pub items_come : (t : ℤ) → HoldAndComeTo measure amount_of rows value t
      → HasValue measure (map (amount_item amount_of c) rows) value t
  items_come t h = known (some_tally (map (amount_item amount_of c) rows) t)
    where
      known : ((o : Option Tally) × IsTallyAt (map (amount_item amount_of c) rows) t o)
          → HasValue measure (map (amount_item amount_of c) rows) value t
      known (None, none) = absurd (
          let long = length-map (rows_on t rows) amount_of in
          let empty : length (map amount_of (rows_on t rows)) ≡ 0 =
          ap length (sym (amounts_on amount_of c rows t) ∙ ap amounts none) in
          let some = h.some in omega (arith, long, empty, some))
      known (Some tally, is) = record {
        tally = tally;
        is = is;
        gives =
            comes_once measure (map amount_of (rows_on t rows)) (measured measure tally) value
            (subst (λ l. ComeTo measure l (measured measure tally)) (amounts_on amount_of c rows t)
            (tally_comes measure (holding (map (amount_item amount_of c) rows) t) tally is)) h.is;
      }

  -- so both have the same maximal periods
  pub maximal_of_items : (p : Period) → IsMaximal (HasValue measure (map (amount_item amount_of c) rows) value) p
      → IsMaximal (HoldAndComeTo measure amount_of rows value) p
  maximal_of_items p =
      IsMaximal-same (HasValue measure (map (amount_item amount_of c) rows) value)
      (HoldAndComeTo measure amount_of rows value) p rows_come items_come

  pub maximal_of_rows : (p : Period) → IsMaximal (HoldAndComeTo measure amount_of rows value) p
      → IsMaximal (HasValue measure (map (amount_item amount_of c) rows) value) p
  maximal_of_rows p =
      IsMaximal-same (HoldAndComeTo measure amount_of rows value)
      (HasValue measure (map (amount_item amount_of c) rows) value) p items_come rows_come

-- ---- rows of constant intervals

-- the comparison of a smaller number with a larger one
pub int_less : (a b : ℤ) → a <ℤ b → int_cmp a b ≡ Less
int_less a b h = grind (arith, ints)

-- the group of an aggregate's row is the group of some row
pub row_of_group : (measure : Measure) (amount_of : Row → ℤ) (group_of : Row → Option Value) (rows : List Row)
    (row : AggRow) → IsAggRow measure amount_of group_of rows row
    → (r : Row) × Contains rows r × (group_of r ≡ row.group)
row_of_group measure amount_of group_of rows row is =
    let group = rows_of_group group_of row.group rows in
    let t = row.period.from in
    let (r, there) = inside_some (rows_on t group) (is.maximal.inside t (first_held row.period)).some in
    let within : Contains group r = kept_in (λ (z : Row). holds_at t z.period) group r there in
    let test = kept_passes (λ (z : Row). same_maybe (group_of z) row.group) rows r within in (
      r,
      kept_in (λ (z : Row). same_maybe (group_of z) row.group) rows r within,
      (maybe_decides (group_of r) row.group).0 test,
    )

-- if all classes are below a number, so is the class of a constant interval
plateau_within : (measure : Measure) (items : List Item) (n : ℕ) (p : Plateau)
    → All (λ (x : Item). x.class < n) items → IsPlateau measure items p → p.class < n
plateau_within measure items n p within is =
    let (x, there) = period_held measure (of_class p.class items) p.value p.period is.maximal in
    let test : (x.class == p.class) ≡ true = kept_passes (λ (y : Item). y.class == p.class) items x there in
    subst (λ k. k < n) ((Decides-eqb x.class p.class).0 test)
    (All-contains (λ (y : Item). y.class < n) items x within
    (kept_in (λ (y : Item). y.class == p.class) items x there))

module _ (measure : Measure) (amount_of : Row → ℤ) (group_of : Row → Option Value) (rows : List Row) (items : List Item)
    (groups : List (Option Value)) (grouping : IsGrouping amount_of group_of rows items groups) where
  -- the class of a constant interval is the number of a group
  class_within : (p : Plateau) → IsPlateau measure items p → p.class < length groups
  class_within p is = plateau_within measure items (length groups) p grouping.within is

  -- the constant intervals of a group's number are maximal periods of its rows
  row_maximal : (c : ℕ) (g : Option Value) (value : ℤ) (p : Period) → slice_get groups c ≡ Some g
      → IsMaximal (HasValue measure (of_class c items) value) p
      → IsMaximal (HoldAndComeTo measure amount_of (rows_of_group group_of g rows) value) p
  row_maximal c g value p at maximal =
      maximal_of_items measure amount_of c (rows_of_group group_of g rows) value p
      (subst (λ l. IsMaximal (HasValue measure l value) p) (grouping.of_classes c g at) maximal)

  -- the maximal periods of a group's rows are constant intervals of its number
  class_maximal : (c : ℕ) (g : Option Value) (value : ℤ) (p : Period) → slice_get groups c ≡ Some g
      → IsMaximal (HoldAndComeTo measure amount_of (rows_of_group group_of g rows) value) p
      → IsMaximal (HasValue measure (of_class c items) value) p
  class_maximal c g value p at maximal =
      subst (λ l. IsMaximal (HasValue measure l value) p) (sym (grouping.of_classes c g at))
      (maximal_of_rows measure amount_of c (rows_of_group group_of g rows) value p maximal)

  -- the row of a constant interval is a row of the aggregate
  row_of_plateau : (p : Plateau) → IsPlateau measure items p
      → IsAggRow measure amount_of group_of rows (agg_row_of groups p)
  row_of_plateau p is =
      record {
        maximal = row_maximal p.class (slice_index_or groups p.class None) p.value p.period
            (slice_get-get_or groups p.class None (class_within p is)) is.maximal;
      }

  -- the group of an aggregate's row has a number
  number_of_row : (row : AggRow) → IsAggRow measure amount_of group_of rows row → Contains groups row.group
  number_of_row row is =
      let (r, there, same) = row_of_group measure amount_of group_of rows row is in
      subst (Contains groups) same (grouping.listed r there)

  -- a row of the aggregate is the row of a constant interval
  plateau_of_row : (row : AggRow) → IsAggRow measure amount_of group_of rows row
      → (p : Plateau) × IsPlateau measure items p × (agg_row_of groups p ≡ row)
  plateau_of_row row is =
      let (c, inside, e) = number_of_row row is in
      let at : slice_get groups c ≡ Some row.group = slice_get-get_or groups c row.group inside ∙ ap Some e in
      let group_is : slice_index_or groups c None ≡ row.group =
      get_or_from_slice_get groups c row.group None at in (
        record { class = c; period = row.period; value = row.value },
        record { maximal = class_maximal c row.group row.value row.period at is.maximal },
        λ i. record { group = group_is i; period = row.period; value = row.value },
      )

  -- rows have the order of their constant intervals
  rows_before : (a b : Plateau) → IsPlateau measure items b → PlateauBefore a b
      → AggRowBefore (agg_row_of groups a) (agg_row_of groups b)
  rows_before a b is (inl less) =
      ap (λ (o : Ordering). ordering_then o (int_cmp a.period.from b.period.from))
      (grouping.rise a.class b.class None less (class_within b is))
  rows_before a b is (inr (same, earlier)) =
      ap (λ (o : Ordering). ordering_then o (int_cmp a.period.from b.period.from))
      (ap (λ n. maybe_cmp (slice_index_or groups n None) (slice_index_or groups b.class None)) same
      ∙ tied_itself maybe_total (slice_index_or groups b.class None))
      ∙ int_less a.period.from b.period.from earlier

  -- the rows of all constant intervals are the aggregate
  pub answer_of : (answer : List AggRow) → ArePlateauRows measure items groups answer
      → AreAggRows measure amount_of group_of rows answer
  answer_of answer made =
      let ps = made.plateaus in
      let all = made.all in
      subst (AreAggRows measure amount_of group_of rows) (sym made.is) (record {
        ordered = AllPairs-map PlateauBefore AggRowBefore (agg_row_of groups) ps
            (λ a b there. rows_before a b ((all.exactly b).0 there)) all.ordered;
        exactly = λ row. (
          λ h. let (p, there, is) = Contains-map_source (agg_row_of groups) ps row h in
              subst (IsAggRow measure amount_of group_of rows) is (row_of_plateau p ((all.exactly p).0 there)),
          λ w. let (p, wanted, is) = plateau_of_row row w in
              subst (Contains (map (agg_row_of groups) ps)) is
              (Contains-map (agg_row_of groups) ps p ((all.exactly p).1 wanted)),
        );
      })

-- ---- indices of columns

-- the value at a column's index is the value under its name
value_at_place-place_in : (columns : List Column) (name : Option (List ℕ))
    → value_at_place (place_in columns name) ≡ value_in columns name
value_at_place-place_in columns None = refl
value_at_place-place_in columns (Some n) = refl

-- the index of a named group column is within the columns
pub group-there : (columns : List Column) (group : Option (List ℕ)) (by : Option ℕ) → by ≡ place_in columns group
    → IfSome by (λ place. place < length columns)
group-there columns group None e = tt
group-there columns None (Some place) e = cc
group-there [] (Some name) (Some place) e = absurd (search rules)
group-there (first ∷ columns) (Some name) (Some place) e =
    (position-Some (λ (c : Column). bytes_eq c.name name) (first ∷ columns) place first (sym e)).0

-- values that fit columns are of their kinds
kind_there : (columns : List Column) (values : List Value) (place : ℕ) (k : Kind) → fits columns values ≡ true
    → option_map (λ (c : Column). c.kind) (slice_get columns place) ≡ Some k
    → option_map kind_of (slice_get values place) ≡ Some k
kind_there [] values place k fit e = cc
kind_there (c ∷ columns) [] place k fit e = cc
kind_there (c ∷ columns) (v ∷ values) zero k fit e =
    ap Some (sym (kind_is c.kind (kind_of v) (and_parts (same_kind c.kind (kind_of v)) (fits columns values) fit).0))
    ∙ e
kind_there (c ∷ columns) (v ∷ values) (suc place) k fit e =
    kind_there columns values place k (and_parts (same_kind c.kind (kind_of v)) (fits columns values) fit).1 e

-- rows that fit columns have values of each column's kind
pub kinds_there : (columns : List Column) (rows : List Row) (place : ℕ) (k : Kind)
    → All (λ (row : Row). IsTrue (fits columns row.values)) rows
    → option_map (λ (c : Column). c.kind) (slice_get columns place) ≡ Some k → HaveValues k place rows
kinds_there columns rows place k fit e i d inside =
    kind_there columns (get_or rows i d).values place k (fit i d inside) e

-- an aggregate by indices is an aggregate by names
pub agg_by_names : (columns : List Column) (func : Func) (group : Option (List ℕ)) (rows : List Row) (measure : Measure)
    (amount by : Option ℕ) (answer : List AggRow) → measure ≡ measure_of func
    → amount ≡ place_in columns (number_column func) → by ≡ place_in columns group
    → AreAggRows measure (amount_at amount) (value_at_place by) rows answer → IsAgg columns func group rows answer
agg_by_names columns func group rows measure amount by answer m a b all =
    let numbers : (Row → Option Value) → Row → ℤ = λ v r. amount_of_value (v r) in
    let amounts_are : amount_at amount ≡ amount_in columns func =
    ap numbers (ap value_at_place a ∙ value_at_place-place_in columns (number_column func)) in
    let groups_are : value_at_place by ≡ value_in columns group =
    ap value_at_place b ∙ value_at_place-place_in columns group in
    subst (λ (n : Measure). AreAggRows n (amount_in columns func) (value_in columns group) rows answer) m
    (subst (λ (f : Row → ℤ). AreAggRows measure f (value_in columns group) rows answer) amounts_are
    (subst (λ (f : Row → Option Value). AreAggRows measure (amount_at amount) f rows answer) groups_are all))
