-- The aggregates of lots of rows, and the aggregate of all rows.
use Rattle.std.proofs.Common.{◌≡◌, ◌↔◌, ℕ, ℤ, true, List, Option, refl, sym, ap, subst, ◌∙◌}
use Rattle.std.specs.Prelude.{Contains, ◌==◌}
use Rattle.std.proofs.lemmas.Bool.Decides.{Decides-eqb}
use Rattle.row_core.specs.ValueOrder.{same_maybe}
use Rattle.row_core.specs.declared.row.Row.{Row}
use Rattle.row_core.specs.declared.value.Value.{Value}
use Rattle.row_core.proofs.ValueLemmas.{maybe_decides}
use Rattle.list_core.specs.Wanted.{IsListOf}
use Rattle.list_core.proofs.OrderedLemmas.{before-asym}
use Rattle.match_core.specs.Lots.{IsInSome, rows_sent}
use Rattle.match_core.proofs.LotLemmas.{lot_of_whole, whole_of_lots}
use Rattle.match_core.proofs.SentLemmas.{contained-list_any, list_any-contains, sent-in, sent-there, sent-to}
use Rattle.merge_core.specs.Gaps.{IsMaximal}
use Rattle.round_core.specs.declared.measure.Measure.{Measure}
use Rattle.agg_core.specs.declared.rows.AggRow.{AggRow}
use Rattle.agg_core.specs.Agg.{AreAggRows, HoldAndComeTo, IsAggRow, amount_in, measure_of, value_in}
use Rattle.agg_core.specs.AggLots.{LotAggIsOfWhole, LotAggsAreApart, SendsGroupsTogether, ValuesSendGroupsTogether, WholeAggIsOfLots, agg_rows_sent, has_group}
use Rattle.agg_core.specs.Groups.{AggRowBefore, agg_row_cmp, rows_of_group}
use Rattle.agg_core.proofs.OrderLemmas.{agg_row_total}
use Rattle.agg_core.proofs.PlateauLemmas.{row_of_group}
use Rattle.agg_core.proofs.ShareLemmas.{keep_all}

-- a group with a row is found
has_group-there : (group_of : Row → Option Value) (rows : List Row) (row : Row) (group : Option Value) → Contains rows row
    → group_of row ≡ group → has_group group_of rows group ≡ true
has_group-there group_of rows row group h e =
    list_any-contains (λ (r : Row). same_maybe (group_of r) group) rows row h ((maybe_decides (group_of row) group).1 e)

-- a group that is found has a row
row_of_known : (group_of : Row → Option Value) (rows : List Row) (group : Option Value)
    → has_group group_of rows group ≡ true → (row : Row) × Contains rows row × (group_of row ≡ group)
row_of_known group_of rows group known =
    let (row, h, passes) = contained-list_any (λ (r : Row). same_maybe (group_of r) group) rows known in
    (row, h, (maybe_decides (group_of row) group).0 passes)

module _ (measure : Measure) (amount_of : Row → ℤ) (group_of : Row → Option Value) (lot_of : Row → ℕ) (rows : List Row)
    (together : SendsGroupsTogether group_of lot_of rows) where
  -- all rows of a group go to the lot of one of them
  group_sent : (lot : ℕ) (group : Option Value) (row : Row) → Contains (rows_sent lot_of lot rows) row
      → group_of row ≡ group
      → rows_of_group group_of group (rows_sent lot_of lot rows) ≡ rows_of_group group_of group rows
  group_sent lot group row h e =
      let row_in : Contains rows row = sent-in lot_of lot rows row h in
      keep_all (λ (r : Row). lot_of r == lot) (λ (r : Row). same_maybe (group_of r) group) rows
      (λ x x_in passes.
      let same : group_of row ≡ group_of x = e ∙ sym ((maybe_decides (group_of x) group).0 passes) in
      (Decides-eqb (lot_of x) lot).1
      (sym (together row x row_in x_in same) ∙ sent-to lot_of lot rows row h))

  -- A row of a lot's aggregate.
  abbrev IsLotRow : ℕ → AggRow → Type 0
  IsLotRow lot = IsAggRow measure amount_of group_of (rows_sent lot_of lot rows)

  -- it is of a group that goes there
  row_sent : (lot : ℕ) (row : AggRow) → IsLotRow lot row
      → (r : Row) × Contains (rows_sent lot_of lot rows) r × (group_of r ≡ row.group)
  row_sent lot row is = row_of_group measure amount_of group_of (rows_sent lot_of lot rows) row is

  -- it is a row of the whole aggregate
  whole_row : (lot : ℕ) (row : AggRow) → IsLotRow lot row → IsAggRow measure amount_of group_of rows row
  whole_row lot row is =
      let (r, h, e) = row_sent lot row is in
      record {
        maximal =
            subst (λ (l : List Row). IsMaximal (HoldAndComeTo measure amount_of l row.value) row.period)
            (group_sent lot row.group r h e) is.maximal;
      }

  -- a row of the whole aggregate is a row of its group's lot
  lot_row : (lot : ℕ) (row : AggRow) (r : Row) → Contains (rows_sent lot_of lot rows) r → group_of r ≡ row.group
      → IsAggRow measure amount_of group_of rows row → IsLotRow lot row
  lot_row lot row r h e is =
      record {
        maximal =
            subst (λ (l : List Row). IsMaximal (HoldAndComeTo measure amount_of l row.value) row.period)
            (sym (group_sent lot row.group r h e)) is.maximal;
      }

  -- no row belongs to two lots
  lots_apart : (one other : ℕ) (row : AggRow) → IsLotRow one row → IsLotRow other row → one ≡ other
  lots_apart one other row is is' =
      let (r, h, e) = row_sent one row is in
      let (s, k, f) = row_sent other row is' in
      sym (sent-to lot_of one rows r h)
      ∙ together r s (sent-in lot_of one rows r h) (sent-in lot_of other rows s k) (e ∙ sym f)
      ∙ sent-to lot_of other rows s k

  -- the aggregate of a lot is the rows of the whole aggregate whose group goes there
  lot_agg : (lot : ℕ) (whole answer : List AggRow) → AreAggRows measure amount_of group_of rows whole
      → AreAggRows measure amount_of group_of (rows_sent lot_of lot rows) answer
      → answer ≡ agg_rows_sent group_of lot_of rows lot whole
  lot_agg lot whole answer is is' =
      let sent : List Row = rows_sent lot_of lot rows in
      lot_of_whole AggRowBefore (IsAggRow measure amount_of group_of rows) (IsLotRow lot)
      (λ (row : AggRow). has_group group_of sent row.group) whole answer (before-asym agg_row_cmp agg_row_total)
      (λ row p. (
        whole_row lot row p,
        (let (r, h, e) = row_sent lot row p in has_group-there group_of sent r row.group h e),
      ))
      (λ row w known. let (r, h, e) = row_of_known group_of sent row.group known in lot_row lot row r h e w) is is'

  -- the whole aggregate is the rows of the lots' aggregates
  whole_agg : (answer_of : ℕ → List AggRow) (whole : List AggRow)
      → ((lot : ℕ) → AreAggRows measure amount_of group_of (rows_sent lot_of lot rows) (answer_of lot))
      → AreAggRows measure amount_of group_of rows whole ↔ IsListOf AggRowBefore (IsInSome answer_of) whole
  whole_agg answer_of whole =
      whole_of_lots AggRowBefore (IsAggRow measure amount_of group_of rows) IsLotRow answer_of whole whole_row
      (λ row is.
      let (r, h, e) = row_of_group measure amount_of group_of rows row is in
      (lot_of r, lot_row (lot_of r) row r (sent-there lot_of (lot_of r) rows r h refl) e is))

-- so it is for a table's rows
pub lot_agg_is_of_whole : LotAggIsOfWhole
lot_agg_is_of_whole columns func group rows lot_of lot whole answer together is is' =
    lot_agg (measure_of func) (amount_in columns func) (value_in columns group) lot_of rows together lot whole answer
    is is'

pub whole_agg_is_of_lots : WholeAggIsOfLots
whole_agg_is_of_lots columns func group rows lot_of answer_of whole together each =
    whole_agg (measure_of func) (amount_in columns func) (value_in columns group) lot_of rows together answer_of whole
    each

pub lot_aggs_are_apart : LotAggsAreApart
lot_aggs_are_apart columns func group rows lot_of one other answer more row together is is' h k =
    lots_apart (measure_of func) (amount_in columns func) (value_in columns group) lot_of rows together one other row
    ((is.exactly row).0 h) ((is'.exactly row).0 k)

-- a hash of a group's value sends its rows to one lot
pub values_send_groups_together : ValuesSendGroupsTogether
values_send_groups_together columns group hash rows x y x_in y_in same = ap hash same
