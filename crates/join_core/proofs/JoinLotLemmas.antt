-- The joins of lots of rows, and the join of all rows.
use Rattle.std.proofs.Common.{◌≡◌, ℕ, List, sym, ◌∙◌}
use Rattle.std.specs.Prelude.{Contains}
use Rattle.row_core.specs.declared.row.Row.{Row}
use Rattle.list_core.proofs.OrderedLemmas.{before-asym}
use Rattle.match_core.specs.Columns.{MatchesOn}
use Rattle.match_core.specs.Lots.{SendsTogether, rows_sent}
use Rattle.match_core.proofs.LotLemmas.{lot_answers, lots_apart, whole_answers}
use Rattle.match_core.proofs.SentLemmas.{sent-in, sent-there}
use Rattle.join_core.specs.declared.rows.JoinRow.{JoinRow}
use Rattle.join_core.specs.Join.{IsJoinRow, RowBefore, join_cmp}
use Rattle.join_core.specs.JoinLots.{LotJoinIsOfWhole, LotJoinsAreApart, WholeJoinIsOfLots}
use Rattle.join_core.proofs.OrderLemmas.{join_total}

-- The left row of a join's row.
abbrev left_of : (Matches : Row → Row → Type 0) (left right : List Row) (row : JoinRow) → IsJoinRow Matches left right row
    → (x : Row) × Contains left x × (row.left ≡ x.id)
left_of Matches left right row is = (is.x, is.x_in, is.left_id)

module _ (Matches : Row → Row → Type 0) (left right : List Row) (left_lot right_lot : Row → ℕ) where
  -- A row of a lot's join.
  abbrev IsLotRow : ℕ → JoinRow → Type 0
  IsLotRow lot = IsJoinRow Matches (rows_sent left_lot lot left) (rows_sent right_lot lot right)

  -- it is a row of the whole join
  whole_row : (lot : ℕ) (row : JoinRow) → IsLotRow lot row → IsJoinRow Matches left right row
  whole_row lot row is = record {
    x = is.x;
    y = is.y;
    x_in = sent-in left_lot lot left is.x is.x_in;
    y_in = sent-in right_lot lot right is.y is.y_in;
    left_id = is.left_id;
    right_id = is.right_id;
    matches = is.matches;
    shared = is.shared;
  }

  -- a row of the whole join is a row of its left row's lot
  lot_row : SendsTogether Matches left_lot right_lot left right → (lot : ℕ) (row : JoinRow)
      → (is : IsJoinRow Matches left right row) → left_lot is.x ≡ lot → IsLotRow lot row
  lot_row together lot row is e = record {
    x = is.x;
    y = is.y;
    x_in = sent-there left_lot lot left is.x is.x_in e;
    y_in = sent-there right_lot lot right is.y is.y_in (sym (together is.x is.y is.x_in is.y_in is.matches) ∙ e);
    left_id = is.left_id;
    right_id = is.right_id;
    matches = is.matches;
    shared = is.shared;
  }

-- so the laws on lots hold for joins
pub lot_join_is_of_whole : LotJoinIsOfWhole
lot_join_is_of_whole left_columns right_columns on left right left_lot right_lot lot whole rows rise together =
    let Matches = MatchesOn left_columns right_columns on in
    lot_answers RowBefore (before-asym join_cmp join_total) (IsJoinRow Matches) (λ (row : JoinRow). row.left)
    (left_of Matches) left right left_lot right_lot (whole_row Matches left right left_lot right_lot)
    (lot_row Matches left right left_lot right_lot together) rise lot whole rows

pub whole_join_is_of_lots : WholeJoinIsOfLots
whole_join_is_of_lots left_columns right_columns on left right left_lot right_lot join_of whole together =
    let Matches = MatchesOn left_columns right_columns on in
    whole_answers RowBefore (before-asym join_cmp join_total) (IsJoinRow Matches) (λ (row : JoinRow). row.left)
    (left_of Matches) left right left_lot right_lot (whole_row Matches left right left_lot right_lot)
    (lot_row Matches left right left_lot right_lot together) join_of whole

pub lot_joins_are_apart : LotJoinsAreApart
lot_joins_are_apart left_columns right_columns on left right left_lot right_lot one other rows more row rise =
    let Matches = MatchesOn left_columns right_columns on in
    lots_apart RowBefore (before-asym join_cmp join_total) (IsJoinRow Matches) (λ (r : JoinRow). r.left)
    (left_of Matches) left right left_lot right_lot rise one other rows more row
