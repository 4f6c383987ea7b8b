-- Any rows have an aggregate: the constant intervals of each group's rows can be listed.
use Rattle.std.proofs.Common.{◌≡◌, ◌==◌, ℤ, true, List, [], ◌∷◌, map, Option, inl, inr, refl, sym, ap, subst, ◌∙◌, arith}
use Rattle.std.specs.Prelude.{Contains}
use Rattle.std.specs.Cmp.{IsTotalOrder}
use Rattle.std.specs.Ordering.{int_cmp, ordering_then}
use Rattle.std.specs.declared.cmp.Ordering.{Ordering}
use Rattle.std.specs.declared.cmp.Ordering.TheVariants.{Less, Equal, Greater}
use Rattle.std.proofs.lemmas.Bool.Decides.{Decides-eqb}
use Rattle.std.proofs.lemmas.Cmp.{int_cmp_total, on_total, then_total, tied_itself}
use Rattle.std.proofs.lemmas.Int.{ints}
use Rattle.std.proofs.lemmas.Map.Lookups.{exact_signed}
use Rattle.row_core.specs.declared.row.Row.{Row}
use Rattle.row_core.specs.declared.value.Value.{Value}
use Rattle.row_core.proofs.ValueLemmas.{maybe_exact}
use Rattle.dip_core.specs.declared.item.Item.{Item}
use Rattle.list_core.proofs.MadeLemmas.{Contains-map, Contains-map_source}
use Rattle.list_core.proofs.WantedExistence.{IsUnorderedListOf, WantedForSome, some_unordered, some_wanted}
use Rattle.list_core.proofs.WantedLemmas.{AllPairs-cases, AllPairs-other}
use Rattle.list_core.proofs.OrderedLemmas.{both_tie}
use Rattle.period_core.proofs.PeriodLemmas.{Period-same}
use Rattle.merge_core.specs.Gaps.{IsMaximal}
use Rattle.round_core.specs.declared.measure.Measure.{Measure}
use Rattle.round_core.specs.declared.plateau.Plateau.{Plateau}
use Rattle.round_core.specs.Plateaus.{HasValue, IsPlateau, PlateauBefore, of_class}
use Rattle.round_core.proofs.PlateauExistence.{some_plateaus}
use Rattle.agg_core.specs.declared.rows.AggRow.{AggRow}
use Rattle.agg_core.specs.Agg.{AggHasSomeList, AreAggRows, IsAggRow, amount_in, measure_of, value_in}
use Rattle.agg_core.specs.Groups.{AggRowBefore, agg_row_cmp, rows_of_group}
use Rattle.agg_core.specs.Grouping.{amount_item}
use Rattle.agg_core.proofs.OrderLemmas.{agg_row_total}
use Rattle.match_core.proofs.SentLemmas.{kept_in, kept_passes}
use Rattle.agg_core.proofs.PlateauLemmas.{maximal_of_items, maximal_of_rows, period_held, row_of_group}

-- a row is determined by its fields
AggRow-same : (a b : AggRow) → a.group ≡ b.group → a.period ≡ b.period → a.value ≡ b.value → a ≡ b
AggRow-same a b g p v = λ i. record { group = g i; period = p i; value = v i }

-- ---- an order: only equal rows compare as equal

-- The order by group and start, then by end and value.
abbrev full_cmp : AggRow → AggRow → Ordering
full_cmp a b =
    ordering_then (agg_row_cmp a b) (ordering_then (int_cmp a.period.to b.period.to) (int_cmp a.value b.value))

-- the full order is total
full_total : IsTotalOrder full_cmp
full_total =
    then_total agg_row_total
    (then_total (on_total (λ (x : AggRow). x.period.to) int_cmp_total)
    (on_total (λ (x : AggRow). x.value) int_cmp_total))

-- rows that compare as equal by group and start have the same group and start
tied_starts : (a b : AggRow) → agg_row_cmp a b ≡ Equal → (a.group ≡ b.group) × (a.period.from ≡ b.period.from)
tied_starts a b e =
    let parts = both_tie _ _ e in
    (maybe_exact a.group b.group parts.0, exact_signed a.period.from b.period.from parts.1)

-- rows that compare as equal in the full order are equal
tied_rows : (a b : AggRow) → full_cmp a b ≡ Equal → a ≡ b
tied_rows a b e =
    let halves = both_tie _ _ e in
    let starts = tied_starts a b halves.0 in
    let ends = both_tie _ _ halves.1 in
    AggRow-same a b starts.0
    (Period-same a.period b.period starts.1 (exact_signed a.period.to b.period.to ends.0))
    (exact_signed a.value b.value ends.1)

-- ---- the rows of a group

module _ (measure : Measure) (amount_of : Row → ℤ) (group_of : Row → Option Value) (rows : List Row) where
  -- A group's rows as items.
  abbrev items_of : Option Value → List Item
  items_of group = map (amount_item amount_of 0) (rows_of_group group_of group rows)

  -- A row for the group.
  abbrev IsRowFor : Option Value → AggRow → Type 0
  IsRowFor group row = (row.group ≡ group) × IsAggRow measure amount_of group_of rows row

  -- The row of a constant interval of the group's items.
  abbrev row_of : Option Value → Plateau → AggRow
  row_of group p = record { group = group; period = p.period; value = p.value }

  -- The constant interval of a row.
  abbrev plateau_of : AggRow → Plateau
  plateau_of row = record { class = 0; period = row.period; value = row.value }

  -- all of a group's items are of one class
  of_one_class : (some : List Row)
      → of_class 0 (map (amount_item amount_of 0) some) ≡ map (amount_item amount_of 0) some
  of_one_class [] = refl
  of_one_class (r ∷ some) = ap (λ l. amount_item amount_of 0 r ∷ l) (of_one_class some)

  -- so are their constant intervals
  plateau_class : (group : Option Value) (p : Plateau) → IsPlateau measure (items_of group) p → p.class ≡ 0
  plateau_class group p is =
      let (x, there) = period_held measure (of_class p.class (items_of group)) p.value p.period is.maximal in
      let test : (x.class == p.class) ≡ true =
      kept_passes (λ (y : Item). y.class == p.class) (items_of group) x there in
      let (r, within, made) =
      Contains-map_source (amount_item amount_of 0) (rows_of_group group_of group rows) x
      (kept_in (λ (y : Item). y.class == p.class) (items_of group) x there) in
      sym ((Decides-eqb x.class p.class).0 test) ∙ sym (ap (λ (y : Item). y.class) made)

  -- the row of a constant interval is a row for the group
  row_of_plateau : (group : Option Value) (p : Plateau) → IsPlateau measure (items_of group) p
      → IsRowFor group (row_of group p)
  row_of_plateau group p is = (
    refl,
    record {
      maximal =
          maximal_of_items measure amount_of 0 (rows_of_group group_of group rows) p.value p.period
          (subst (λ l. IsMaximal (HasValue measure l p.value) p.period)
          (ap (λ c. of_class c (items_of group)) (plateau_class group p is)
          ∙ of_one_class (rows_of_group group_of group rows)) is.maximal);
    },
  )

  -- a row for the group is the row of a constant interval
  plateau_of_row : (group : Option Value) (row : AggRow) → IsRowFor group row
      → IsPlateau measure (items_of group) (plateau_of row)
  plateau_of_row group row (same, is) =
      record {
        maximal =
            subst (λ l. IsMaximal (HasValue measure l row.value) row.period)
            (ap items_of same ∙ sym (of_one_class (rows_of_group group_of group rows)))
            (maximal_of_rows measure amount_of 0 (rows_of_group group_of row.group rows) row.value row.period is.maximal);
      }

  -- all rows for a group
  rows_for : (group : Option Value) → (answer : List AggRow) × IsUnorderedListOf (IsRowFor group) answer
  rows_for group =
      let (ps, all) = some_plateaus measure (items_of group) in (
        map (row_of group) ps,
        λ row. (
          λ h. let (p, there, is) = Contains-map_source (row_of group) ps row h in
              subst (IsRowFor group) is (row_of_plateau group p ((all.exactly p).0 there)),
          λ w.
              subst (Contains (map (row_of group) ps))
              (AggRow-same (row_of group (plateau_of row)) row (sym w.0) refl refl)
              (Contains-map (row_of group) ps (plateau_of row)
              ((all.exactly (plateau_of row)).1 (plateau_of_row group row w))),
        ),
      )

  -- a group has at most one row that starts at an instant
  one_row_at : (a b : AggRow) → IsAggRow measure amount_of group_of rows a → IsAggRow measure amount_of group_of rows b
      → a.group ≡ b.group → a.period.from ≡ b.period.from → a ≡ b
  one_row_at a b is is' same from =
      let (ps, all) = some_plateaus measure (items_of b.group) in
      elim (AllPairs-cases PlateauBefore ps (plateau_of a) (plateau_of b) all.ordered
      ((all.exactly (plateau_of a)).1 (plateau_of_row b.group a (same, is)))
      ((all.exactly (plateau_of b)).1 (plateau_of_row b.group b (refl, is')))) [
        | inl one ↦ AggRow-same a b same (ap (λ (p : Plateau). p.period) one) (ap (λ (p : Plateau). p.value) one)
        | inr before ↦ absurd (elim before [
          | inl early ↦ never a b early from
          | inr late ↦ never b a late (sym from)
        ])
      ]
    where
      never : (c d : AggRow) → PlateauBefore (plateau_of c) (plateau_of d) → c.period.from ≡ d.period.from → ⊥
      never c d (inl less) e = omega arith
      never c d (inr (one, less)) e = omega (arith, ints, e, less)

  -- ---- all rows

  -- a row for some row's group is a row of the aggregate
  wanted_for_some : (row : AggRow) → WantedForSome (λ r. IsRowFor (group_of r)) rows row
      → IsAggRow measure amount_of group_of rows row
  wanted_for_some row (r, r_in, is) = is.1

  -- a row of the aggregate is a row for some row's group
  for_some_wanted : (row : AggRow) → IsAggRow measure amount_of group_of rows row
      → WantedForSome (λ r. IsRowFor (group_of r)) rows row
  for_some_wanted row is =
      let (r, there, same) = row_of_group measure amount_of group_of rows row is in (r, there, (sym same, is))

  -- rows in the full order are in the order by group and start
  before_from_full : (a b : AggRow) → IsAggRow measure amount_of group_of rows a
      → IsAggRow measure amount_of group_of rows b → full_cmp a b ≡ Less → AggRowBefore a b
  before_from_full a b is is' = by_cmp (agg_row_cmp a b) refl where
    by_cmp : (o : Ordering) → agg_row_cmp a b ≡ o → full_cmp a b ≡ Less → AggRowBefore a b
    by_cmp Less e less = e
    by_cmp Equal e less =
        let starts = tied_starts a b e in
        let same : a ≡ b = one_row_at a b is is' starts.0 starts.1 in
        let tie : full_cmp a b ≡ Equal = subst (λ c. full_cmp a c ≡ Equal) same (tied_itself full_total a) in
        let bad : Less ≡ Equal = sym less ∙ tie in cc
    by_cmp Greater e less =
        let bad : Greater ≡ Less =
        sym (ap (λ o. ordering_then o (ordering_then (int_cmp a.period.to b.period.to) (int_cmp a.value b.value))) e)
        ∙ less in cc

  -- all rows, in order
  some_rows : (answer : List AggRow) × AreAggRows measure amount_of group_of rows answer
  some_rows =
      let (unordered, all) = some_unordered (λ (r : Row). IsRowFor (group_of r)) (λ r. rows_for (group_of r)) rows in
      let (answer, is) =
      some_wanted full_cmp full_total tied_rows (WantedForSome (λ (r : Row). IsRowFor (group_of r)) rows) unordered
      all in (
        answer,
        record {
          ordered = AllPairs-other (λ a b. full_cmp a b ≡ Less) AggRowBefore answer is.ordered
              (λ a b h k.
              before_from_full a b (wanted_for_some a ((is.exactly a).0 h))
              (wanted_for_some b ((is.exactly b).0 k)));
          exactly = λ row. (
            λ h. wanted_for_some row ((is.exactly row).0 h),
            λ w. (is.exactly row).1 (for_some_wanted row w),
          );
        },
      )

-- any rows have an aggregate
pub some_aggregate : AggHasSomeList
some_aggregate columns func group rows =
    some_rows (measure_of func) (amount_in columns func) (value_in columns group) rows
