-- The aggregates of slices of time, and the aggregate of all time.
use Rattle.std.proofs.Common.{◌≡◌, ◌↔◌, ℤ, Bool, true, false, cond, List, [], ◌∷◌, length, map, Option, Some, None, inl, inr, refl, sym, ap, subst, ◌∙◌, arith}
use Rattle.std.specs.Prelude.{Contains, filter, option_map, ◌≤ℤ◌, ◌<ℤ◌}
use Rattle.std.specs.List.{cons_option}
use Rattle.std.specs.declared.cmp.Ordering.{Ordering}
use Rattle.std.specs.declared.cmp.Ordering.TheVariants.{Less, Equal, Greater}
use Rattle.std.specs.Ordering.{int_cmp, ordering_then}
use Rattle.std.proofs.lemmas.Bool.Decides.{same_from_decides}
use Rattle.std.proofs.lemmas.Cmp.{int_ranked}
use Rattle.std.proofs.lemmas.Int.{ints}
use Rattle.std.proofs.lemmas.List.{length-map}
use Rattle.period_core.specs.declared.period.Period.{Period}
use Rattle.period_core.specs.Period.{Holds, HoldsIn, holds_at, meet}
use Rattle.period_core.proofs.PeriodLemmas.{meet-holds}
use Rattle.row_core.specs.ValueOrder.{maybe_cmp, same_maybe}
use Rattle.row_core.specs.declared.row.Row.{Row}
use Rattle.row_core.specs.declared.value.Value.{Value}
use Rattle.row_core.proofs.ValueLemmas.{maybe_exact}
use Rattle.dip_core.proofs.CrowdLemmas.{Holds-from_test, test-from_holds}
use Rattle.list_core.specs.Wanted.{IsListOf}
use Rattle.list_core.proofs.RisingLemmas.{IsListOf-unique}
use Rattle.list_core.proofs.WantedLemmas.{IsListOf-same}
use Rattle.list_core.proofs.OrderedLemmas.{before-asym}
use Rattle.match_core.proofs.SentLemmas.{cons-same, kept_in, kept_passes}
use Rattle.merge_core.specs.Gaps.{IsMaximal}
use Rattle.merge_core.specs.Hits.{IsShared}
use Rattle.merge_core.proofs.MaximalAround.{maximal-once, maximal_around}
use Rattle.merge_core.proofs.SharedLemmas.{by_order, first_held}
use Rattle.merge_core.proofs.SweepLemmas.{IsMaximal-same}
use Rattle.round_core.specs.declared.measure.Measure.{Measure}
use Rattle.round_core.specs.Plateaus.{HasValue}
use Rattle.round_core.proofs.PlateauExistence.{bounds, holder, value_or_not}
use Rattle.agg_core.specs.declared.rows.AggRow.{AggRow}
use Rattle.agg_core.specs.Agg.{AreAggRows, ComeTo, HoldAndComeTo, IsAggRow, amount_in, measure_of, rows_on, value_in}
use Rattle.agg_core.specs.Grouping.{amount_item}
use Rattle.agg_core.specs.Groups.{AggRowBefore, agg_row_cmp, rows_of_group}
use Rattle.agg_core.specs.Slices.{AreCoveredBy, IsAnswered, IsClosedUp, SliceAggIsOfWhole, SliceComesToTheSame, WholeAggIsOfSlices, agg_row_in, agg_row_within, agg_rows_within, row_in, row_within, rows_within}
use Rattle.agg_core.proofs.ClipLemmas.{AllPairs-filter_map, Contains-filter_map, InSlice, clipped_maximal, filter_map_source, made_of_shared, shared_maximal, shared_of_made}
use Rattle.agg_core.proofs.OrderLemmas.{agg_row_total}
use Rattle.agg_core.proofs.PlateauLemmas.{comes_once, inside_some, int_less, items_come, maximal_of_items}

-- ---- the values of clipped rows

-- a choice between two equal values
cond-same : {X : Type 0} (b : Bool) (x : X) → cond b x x ≡ x
cond-same true x = refl
cond-same false x = refl

module _ (amount_of : Row → ℤ) (kept : (row : Row) (p : Period) → amount_of (row_in row p) ≡ amount_of row)
    (slice : Period) (t : ℤ) (in_slice : Holds slice t) where
  -- at an instant of the slice, clipped rows have the amounts of the rows
  pub amounts_within : (rows : List Row)
      → map amount_of (rows_on t (rows_within slice rows)) ≡ map amount_of (rows_on t rows)
  amounts_within [] = refl
  amounts_within (r ∷ rows) =
      step (meet r.period slice) (meet-holds r.period slice) (rows_within slice rows) (amounts_within rows)
    where
      chosen : (p : Period) (b c : Bool) (xs ys : List Row) → b ≡ c → map amount_of xs ≡ map amount_of ys
          → map amount_of (cond b (row_in r p ∷ xs) xs) ≡ map amount_of (cond c (r ∷ ys) ys)
      chosen p b true xs ys e rest =
          ap (λ (v : Bool). map amount_of (cond v (row_in r p ∷ xs) xs)) e
          ∙ cons-same (amount_of (row_in r p)) (amount_of r) (map amount_of xs) (map amount_of ys) (kept r p) rest
      chosen p b false xs ys e rest = ap (λ (v : Bool). map amount_of (cond v (row_in r p ∷ xs) xs)) e ∙ rest

      missed : (b : Bool) (xs ys : List Row) → (b ≡ true → ⊥) → map amount_of xs ≡ map amount_of ys
          → map amount_of xs ≡ map amount_of (cond b (r ∷ ys) ys)
      missed true xs ys off rest = absurd (off refl)
      missed false xs ys off rest = rest

      step : (o : Option Period) → ((u : ℤ) → HoldsIn o u ↔ (Holds r.period u × Holds slice u)) → (xs : List Row)
          → map amount_of (rows_on t xs) ≡ map amount_of (rows_on t rows)
          → map amount_of (rows_on t (cons_option (option_map (row_in r) o) xs))
          ≡ map amount_of (cond (holds_at t r.period) (r ∷ rows_on t rows) (rows_on t rows))
      step None holds xs rest =
          missed (holds_at t r.period) (rows_on t xs) (rows_on t rows)
          (λ e. (holds t).1 (Holds-from_test t r.period e, in_slice)) rest
      step (Some p) holds xs rest =
          chosen p (holds_at t p) (holds_at t r.period) (rows_on t xs) (rows_on t rows)
          (same_from_decides {P = Holds r.period t} (holds_at t p) (holds_at t r.period)
          (λ e. ((holds t).0 (Holds-from_test t p e)).0, λ h. test-from_holds t p ((holds t).1 (h, in_slice)))
          (Holds-from_test t r.period, test-from_holds t r.period)) rest

module _ (group_of : Row → Option Value) (kept : (row : Row) (p : Period) → group_of (row_in row p) ≡ group_of row)
    (slice : Period) (group : Option Value) where
  -- A row is of the group.
  abbrev is_own : Row → Bool
  is_own row = same_maybe (group_of row) group

  -- the clipped rows of a group are its rows, clipped
  pub group_within : (rows : List Row)
      → rows_of_group group_of group (rows_within slice rows)
      ≡ rows_within slice (rows_of_group group_of group rows)
  group_within [] = refl
  group_within (r ∷ rows) =
      step (meet r.period slice) (rows_within slice rows) (rows_within slice (rows_of_group group_of group rows))
      (group_within rows)
      ∙ sym (first (is_own r))
    where
      first : (b : Bool)
          → rows_within slice (cond b (r ∷ rows_of_group group_of group rows) (rows_of_group group_of group rows))
          ≡ cond b (cons_option (row_within slice r) (rows_within slice (rows_of_group group_of group rows)))
          (rows_within slice (rows_of_group group_of group rows))
      first true = refl
      first false = refl

      step : (o : Option Period) (xs ys : List Row) → filter is_own xs ≡ ys
          → filter is_own (cons_option (option_map (row_in r) o) xs)
          ≡ cond (is_own r) (cons_option (option_map (row_in r) o) ys) ys
      step None xs ys rest = rest ∙ sym (cond-same (is_own r) ys)
      step (Some p) xs ys rest =
          ap (λ (g : Option Value). cond (same_maybe g group) (row_in r p ∷ filter is_own xs) (filter is_own xs))
          (kept r p)
          ∙ ap (λ (l : List Row). cond (is_own r) (row_in r p ∷ l) l) rest

module _ (measure : Measure) (amount_of : Row → ℤ) where
  -- rows with the same amounts at an instant have the same value there
  same_amounts : (some other : List Row) (value t : ℤ)
      → map amount_of (rows_on t some) ≡ map amount_of (rows_on t other)
      → HoldAndComeTo measure amount_of some value t → HoldAndComeTo measure amount_of other value t
  same_amounts some other value t e h =
      let long = length-map (rows_on t some) amount_of in
      let long' = length-map (rows_on t other) amount_of in
      let alike : length (map amount_of (rows_on t some)) ≡ length (map amount_of (rows_on t other)) = ap length e in
      let any = h.some in
      record { some = omega (arith, long, long', alike, any); is = subst (λ l. ComeTo measure l value) e h.is }

  -- if rows have a value, one of them holds
  holding_row : (rows : List Row) (value t : ℤ) → HoldAndComeTo measure amount_of rows value t
      → (row : Row) × Contains rows row × Holds row.period t
  holding_row rows value t h =
      let (r, there) = inside_some (rows_on t rows) h.some in (
        r,
        kept_in (λ (z : Row). holds_at t z.period) rows r there,
        Holds-from_test t r.period (kept_passes (λ (z : Row). holds_at t z.period) rows r there),
      )

  -- clipped rows have no value outside the slice
  within_slice : (slice : Period) (rows : List Row) (value t : ℤ)
      → HoldAndComeTo measure amount_of (rows_within slice rows) value t → Holds slice t
  within_slice slice rows value t h =
      let (y, there, held) = holding_row (rows_within slice rows) value t h in
      let (x, x_in, made) = filter_map_source (row_within slice) rows y there in
      let (p, shared, is) = shared_of_made (row_in x) x.period slice y made in
      let in_p : Holds p t = subst (λ (v : Row). Holds v.period t) (sym is) held in
      ((shared t).0 in_p).1

  -- there is a maximal period around an instant with a value
  value_around : (rows : List Row) (value t : ℤ) → HoldAndComeTo measure amount_of rows value t
      → (p : Period) × Holds p t × IsMaximal (HoldAndComeTo measure amount_of rows value) p
  value_around rows value t h =
      let items = map (amount_item amount_of 0) rows in
      let (low, high, lie) = bounds items in
      let between : (u : ℤ) → HasValue measure items value u → (low ≤ℤ u) × (u <ℤ high) =
      λ u k. (let (x, x_in, held) = holder measure items value u k in lie x u x_in held) in
      let (p, held, maximal) =
      maximal_around (HasValue measure items value) (value_or_not measure items value) low high
      (λ u k. (between u k).0) (λ u k. (between u k).1) t (items_come measure amount_of 0 rows value t h) in
      (p, held, maximal_of_items measure amount_of 0 rows value p maximal)

  -- rows have one value at an instant
  one_value : (rows : List Row) (v w t : ℤ) → HoldAndComeTo measure amount_of rows v t
      → HoldAndComeTo measure amount_of rows w t → v ≡ w
  one_value rows v w t h k = comes_once measure (map amount_of (rows_on t rows)) v w h.is k.is

  module _ (amount_kept : (row : Row) (p : Period) → amount_of (row_in row p) ≡ amount_of row)
      (group_of : Row → Option Value) (group_kept : (row : Row) (p : Period) → group_of (row_in row p) ≡ group_of row)
      (rows : List Row) where
    -- The value of a group's rows.
    abbrev Comes : Option Value → ℤ → ℤ → Type 0
    Comes group value t = HoldAndComeTo measure amount_of (rows_of_group group_of group rows) value t

    -- The value of its clipped rows.
    abbrev ComesWithin : Period → Option Value → ℤ → ℤ → Type 0
    ComesWithin slice group value t =
        HoldAndComeTo measure amount_of (rows_of_group group_of group (rows_within slice rows)) value t

    -- at each instant of a slice clipped rows have the rows' value, and at other instants none
    slice_comes : (slice : Period) (group : Option Value) (value t : ℤ)
        → ComesWithin slice group value t ↔ (Holds slice t × Comes group value t)
    slice_comes slice group value t =
        let own : List Row = rows_of_group group_of group rows in
        let e = group_within group_of group_kept slice group rows in (
          λ h. (
              let k : HoldAndComeTo measure amount_of (rows_within slice own) value t =
              subst (λ (l : List Row). HoldAndComeTo measure amount_of l value t) e h in
              let s : Holds slice t = within_slice slice own value t k in (
                s,
                same_amounts (rows_within slice own) own value t
                    (amounts_within amount_of amount_kept slice t s own) k,
              )),
          λ both.
              subst (λ (l : List Row). HoldAndComeTo measure amount_of l value t) (sym e)
              (same_amounts own (rows_within slice own) value t
              (sym (amounts_within amount_of amount_kept slice t both.0 own)) both.1),
        )

    -- A row of the whole aggregate.
    abbrev IsWhole : AggRow → Type 0
    IsWhole = IsAggRow measure amount_of group_of rows

    -- A row of a slice's aggregate.
    abbrev IsSlices : Period → AggRow → Type 0
    IsSlices slice = IsAggRow measure amount_of group_of (rows_within slice rows)

    -- a row of the whole aggregate, clipped to a slice, is a row of the slice's aggregate
    clipped_row : (slice : Period) (row clip : AggRow) → IsWhole row → agg_row_within slice row ≡ Some clip
        → IsSlices slice clip
    clipped_row slice row clip is made =
        let (p, shared, same) = shared_of_made (agg_row_in row) row.period slice clip made in
        subst (IsSlices slice) same (record {
          maximal = IsMaximal-same (InSlice slice (Comes row.group row.value)) (ComesWithin slice row.group row.value) p
              (λ t. (slice_comes slice row.group row.value t).1)
              (λ t. (slice_comes slice row.group row.value t).0)
              (clipped_maximal (Comes row.group row.value) slice row.period p is.maximal shared);
        })

    -- a row of a slice's aggregate is a row of the whole aggregate, clipped to the slice
    whole_row : (slice : Period) (clip : AggRow) → IsSlices slice clip
        → (row : AggRow) × IsWhole row × (agg_row_within slice row ≡ Some clip)
    whole_row slice clip is =
        let m : IsMaximal (InSlice slice (Comes clip.group clip.value)) clip.period =
        IsMaximal-same (ComesWithin slice clip.group clip.value) (InSlice slice (Comes clip.group clip.value))
        clip.period
        (λ t. (slice_comes slice clip.group clip.value t).0)
        (λ t. (slice_comes slice clip.group clip.value t).1) is.maximal in
        let start = m.inside clip.period.from (first_held clip.period) in
        let (p, held, maximal) =
        value_around (rows_of_group group_of clip.group rows) clip.value clip.period.from start.1 in
        let shared = shared_maximal (Comes clip.group clip.value) slice p clip.period maximal m held in
        (agg_row_in clip p, record { maximal = maximal }, made_of_shared (agg_row_in clip) p slice clip.period shared)

    -- if two rows of one group start one after the other, so do the clipped rows
    clips_start : (slice : Period) (a b : AggRow) (p q : Period) → IsWhole a → IsWhole b → a.group ≡ b.group
        → a.period.from <ℤ b.period.from → IsShared a.period slice p → IsShared b.period slice q → p.from <ℤ q.from
    clips_start slice a b p q is is' same less in_a in_b = elim (by_order q.from p.from) [
      | inr h ↦ h
      | inl late ↦ absurd (
          let pa : Holds a.period p.from = ((in_a p.from).0 (first_held p)).0 in
          let qb : Holds b.period q.from = ((in_b q.from).0 (first_held q)).0 in
          let high : p.from <ℤ a.period.to = pa.1 in
          let low : b.period.from ≤ℤ q.from = qb.0 in
          let qa : Holds a.period q.from = (omega (arith, ints), omega (arith, ints)) in
          let there : Comes a.group b.value q.from =
          subst (λ (g : Option Value). Comes g b.value q.from) (sym same) (is'.maximal.inside q.from qb) in
          let value : a.value ≡ b.value =
          one_value (rows_of_group group_of a.group rows) a.value b.value q.from (is.maximal.inside q.from qa) there in
          let maximal : IsMaximal (Comes a.group b.value) b.period =
          subst (λ (g : Option Value). IsMaximal (Comes g b.value) b.period) (sym same) is'.maximal in
          let maximal' : IsMaximal (Comes a.group a.value) b.period =
          subst (λ (v : ℤ). IsMaximal (Comes a.group v) b.period) (sym value) maximal in
          let one : a.period ≡ b.period =
          maximal-once (Comes a.group a.value) a.period b.period q.from is.maximal maximal' qa qb in
          let from : a.period.from ≡ b.period.from = ap (λ (v : Period). v.from) one in
          omega (arith, ints, less, from))
    ]

    -- so they are in order
    clips_before : (slice : Period) (a b : AggRow) (p q : Period) → IsWhole a → IsWhole b → AggRowBefore a b
        → IsShared a.period slice p → IsShared b.period slice q → AggRowBefore (agg_row_in a p) (agg_row_in b q)
    clips_before slice a b p q is is' before in_a in_b = by_cmp (maybe_cmp a.group b.group) refl
      where
        by_cmp : (o : Ordering) → maybe_cmp a.group b.group ≡ o → AggRowBefore (agg_row_in a p) (agg_row_in b q)
        by_cmp Less e = ap (λ (o : Ordering). ordering_then o (int_cmp p.from q.from)) e
        by_cmp Equal e =
            let starts : int_cmp a.period.from b.period.from ≡ Less =
            sym (ap (λ (o : Ordering). ordering_then o (int_cmp a.period.from b.period.from)) e) ∙ before in
            ap (λ (o : Ordering). ordering_then o (int_cmp p.from q.from)) e
            ∙ int_less p.from q.from
            (clips_start slice a b p q is is' (maybe_exact a.group b.group e)
            (int_ranked a.period.from b.period.from Less (sym starts)) in_a in_b)
        by_cmp Greater e = absurd (
            let bad : Greater ≡ Less =
            sym (ap (λ (o : Ordering). ordering_then o (int_cmp a.period.from b.period.from)) e) ∙ before in cc)

    -- the aggregate of a slice is the whole aggregate, clipped
    slice_agg : (slice : Period) (whole answer : List AggRow) → AreAggRows measure amount_of group_of rows whole
        → AreAggRows measure amount_of group_of (rows_within slice rows) answer
        → answer ≡ agg_rows_within slice whole
    slice_agg slice whole answer is is' =
        IsListOf-unique AggRowBefore (IsSlices slice) answer (agg_rows_within slice whole)
        (before-asym agg_row_cmp agg_row_total) is' (record {
          ordered = AllPairs-filter_map AggRowBefore AggRowBefore (agg_row_within slice) whole in_order is.ordered;
          exactly = λ clip. (
            λ h. (let (row, inside, made) = filter_map_source (agg_row_within slice) whole clip h in
                clipped_row slice row clip ((is.exactly row).0 inside) made),
            λ w. (let (row, row_is, made) = whole_row slice clip w in
                Contains-filter_map (agg_row_within slice) whole row clip ((is.exactly row).1 row_is) made),
          );
        })
      where
        in_order : (a b c d : AggRow) → Contains whole a → Contains whole b → AggRowBefore a b
            → agg_row_within slice a ≡ Some c → agg_row_within slice b ≡ Some d → AggRowBefore c d
        in_order a b c d a_in b_in before made_c made_d =
            let (p, in_a, c_is) = shared_of_made (agg_row_in a) a.period slice c made_c in
            let (q, in_b, d_is) = shared_of_made (agg_row_in b) b.period slice d made_d in
            subst (λ (v : AggRow). AggRowBefore v d) c_is
            (subst (AggRowBefore (agg_row_in a p)) d_is
            (clips_before slice a b p q ((is.exactly a).0 a_in) ((is.exactly b).0 b_in) before in_a in_b))

    -- ---- all slices

    module _ (slices : List Period) (answer_of : Period → List AggRow) (covered : AreCoveredBy slices rows)
        (each : (slice : Period) → Contains slices slice
        → AreAggRows measure amount_of group_of (rows_within slice rows) (answer_of slice)) where
      -- a value in some slice's answer is the group's value
      answered_comes : (group : Option Value) (value t : ℤ) → IsAnswered slices answer_of group value t
          → Comes group value t
      answered_comes group value t a =
          let is : IsSlices a.slice a.row = ((each a.slice a.slice_in).exactly a.row).0 a.row_in in
          let there : Comes a.row.group a.row.value t =
          ((slice_comes a.slice a.row.group a.row.value t).0 (is.maximal.inside t a.holds)).1 in
          subst (λ (v : ℤ). Comes group v t) a.value_is
          (subst (λ (g : Option Value). Comes g a.row.value t) a.group_is there)

      -- a group's value is in some slice's answer
      comes_answered : (group : Option Value) (value t : ℤ) → Comes group value t
          → IsAnswered slices answer_of group value t
      comes_answered group value t h =
          let (r, own, held) = holding_row (rows_of_group group_of group rows) value t h in
          let inside : Contains rows r = kept_in (λ (z : Row). same_maybe (group_of z) group) rows r own in
          let (slice, slice_in, in_slice) = covered r t inside held in
          let k : ComesWithin slice group value t = (slice_comes slice group value t).1 (in_slice, h) in
          let (p, around, maximal) =
          value_around (rows_of_group group_of group (rows_within slice rows)) value t k in
          let row : AggRow = record { group = group; period = p; value = value } in
          record {
            slice = slice;
            slice_in = slice_in;
            row = row;
            row_in = ((each slice slice_in).exactly row).1 (record { maximal = maximal });
            group_is = refl;
            value_is = refl;
            holds = around;
          }

      -- so the rows of the whole aggregate are the coalesced answers
      closed_up : (row : AggRow) → IsWhole row → IsClosedUp slices answer_of row
      closed_up row is = record {
        maximal = IsMaximal-same (Comes row.group row.value) (IsAnswered slices answer_of row.group row.value)
            row.period (comes_answered row.group row.value) (answered_comes row.group row.value) is.maximal;
      }

      whole_of_closed : (row : AggRow) → IsClosedUp slices answer_of row → IsWhole row
      whole_of_closed row is = record {
        maximal = IsMaximal-same (IsAnswered slices answer_of row.group row.value) (Comes row.group row.value)
            row.period (answered_comes row.group row.value) (comes_answered row.group row.value) is.maximal;
      }

      whole_agg : (whole : List AggRow)
          → AreAggRows measure amount_of group_of rows whole
          ↔ IsListOf AggRowBefore (IsClosedUp slices answer_of) whole
      whole_agg whole = (
        IsListOf-same AggRowBefore IsWhole (IsClosedUp slices answer_of) whole closed_up whole_of_closed,
        IsListOf-same AggRowBefore (IsClosedUp slices answer_of) IsWhole whole whole_of_closed closed_up,
      )

-- so it is for a table's rows, because their amounts and groups depend only on their values
pub slice_comes_to_the_same : SliceComesToTheSame
slice_comes_to_the_same columns func group rows slice of_group value t =
    slice_comes (measure_of func) (amount_in columns func) (λ row p. refl) (value_in columns group) (λ row p. refl) rows
    slice of_group value t

pub slice_agg_is_of_whole : SliceAggIsOfWhole
slice_agg_is_of_whole columns func group rows slice whole answer is is' =
    slice_agg (measure_of func) (amount_in columns func) (λ row p. refl) (value_in columns group) (λ row p. refl) rows
    slice whole answer is is'

pub whole_agg_is_of_slices : WholeAggIsOfSlices
whole_agg_is_of_slices columns func group rows slices answer_of whole covered each =
    whole_agg (measure_of func) (amount_in columns func) (λ row p. refl) (value_in columns group) (λ row p. refl) rows
    slices answer_of covered each whole
