-- The anti-joins of lots of rows, and the anti-join of all rows.
use Rattle.std.proofs.Common.{◌≡◌, ℕ, ℤ, List, sym, ◌∙◌}
use Rattle.std.specs.Prelude.{Contains}
use Rattle.row_core.specs.declared.row.Row.{Row}
use Rattle.list_core.proofs.OrderedLemmas.{before-asym}
use Rattle.match_core.specs.Columns.{MatchesOn}
use Rattle.match_core.specs.Lots.{SendsTogether, rows_sent}
use Rattle.match_core.proofs.LotLemmas.{lot_answers, lots_apart, whole_answers}
use Rattle.match_core.proofs.SentLemmas.{sent-in, sent-there, sent-to}
use Rattle.merge_core.proofs.SweepLemmas.{IsMaximal-same}
use Rattle.anti_core.specs.declared.rows.AntiRow.{AntiRow}
use Rattle.anti_core.specs.Anti.{AntiRowBefore, IsAntiRow, IsMet, IsUnmet, anti_cmp}
use Rattle.anti_core.specs.AntiLots.{LotAntiIsOfWhole, LotAntisAreApart, WholeAntiIsOfLots}
use Rattle.anti_core.proofs.OrderLemmas.{anti_total}

module _ (Matches : Row → Row → Type 0) (left right : List Row) (left_lot right_lot : Row → ℕ) where
  -- A row of a lot's anti-join.
  abbrev IsLotRow : ℕ → AntiRow → Type 0
  IsLotRow lot = IsAntiRow Matches (rows_sent left_lot lot left) (rows_sent right_lot lot right)

  -- an instant that a row of the lot meets is met by all rows together
  met_by_all : (lot : ℕ) (x : Row) (t : ℤ) → IsMet Matches (rows_sent right_lot lot right) x t
      → IsMet Matches right x t
  met_by_all lot x t m = record {
    by = m.by;
    by_in = sent-in right_lot lot right m.by m.by_in;
    matches = m.matches;
    holds = m.holds;
  }

  module _ (together : SendsTogether Matches left_lot right_lot left right) where
    module _ (lot : ℕ) (x : Row) (x_in : Contains left x) (to_lot : left_lot x ≡ lot) where
      -- a right row that meets a left row goes to its lot
      met_by_sent : (t : ℤ) → IsMet Matches right x t → IsMet Matches (rows_sent right_lot lot right) x t
      met_by_sent t m = record {
        by = m.by;
        by_in = sent-there right_lot lot right m.by m.by_in
            (sym (together x m.by x_in m.by_in m.matches) ∙ to_lot);
        matches = m.matches;
        holds = m.holds;
      }

      -- so the same instants are unmet
      unmet_by_sent : (t : ℤ) → IsUnmet Matches right x t → IsUnmet Matches (rows_sent right_lot lot right) x t
      unmet_by_sent t u = record { held = u.held; unmet = λ m. u.unmet (met_by_all lot x t m) }

      unmet_by_all : (t : ℤ) → IsUnmet Matches (rows_sent right_lot lot right) x t → IsUnmet Matches right x t
      unmet_by_all t u = record { held = u.held; unmet = λ m. u.unmet (met_by_sent t m) }

    -- a row of a lot's anti-join is a row of the whole anti-join
    whole_row : (lot : ℕ) (row : AntiRow) → IsLotRow lot row → IsAntiRow Matches left right row
    whole_row lot row is =
        let x_in : Contains left is.x = sent-in left_lot lot left is.x is.x_in in
        let to_lot : left_lot is.x ≡ lot = sent-to left_lot lot left is.x is.x_in in
        record {
          x = is.x;
          x_in = x_in;
          id = is.id;
          maximal = IsMaximal-same (IsUnmet Matches (rows_sent right_lot lot right) is.x) (IsUnmet Matches right is.x)
              row.period (unmet_by_all lot is.x x_in to_lot) (unmet_by_sent lot is.x x_in to_lot) is.maximal;
        }

    -- a row of the whole anti-join is a row of its left row's lot
    lot_row : (lot : ℕ) (row : AntiRow) → (is : IsAntiRow Matches left right row) → left_lot is.x ≡ lot
        → IsLotRow lot row
    lot_row lot row is e = record {
      x = is.x;
      x_in = sent-there left_lot lot left is.x is.x_in e;
      id = is.id;
      maximal = IsMaximal-same (IsUnmet Matches right is.x) (IsUnmet Matches (rows_sent right_lot lot right) is.x)
          row.period (unmet_by_sent lot is.x is.x_in e) (unmet_by_all lot is.x is.x_in e) is.maximal;
    }

-- The left row of an anti-join's row.
abbrev left_of : (Matches : Row → Row → Type 0) (left right : List Row) (row : AntiRow) → IsAntiRow Matches left right row
    → (x : Row) × Contains left x × (row.id ≡ x.id)
left_of Matches left right row is = (is.x, is.x_in, is.id)

-- so the laws on lots hold for anti-joins
pub lot_anti_is_of_whole : LotAntiIsOfWhole
lot_anti_is_of_whole left_columns right_columns on left right left_lot right_lot lot whole rows rise together =
    let Matches = MatchesOn left_columns right_columns on in
    lot_answers AntiRowBefore (before-asym anti_cmp anti_total) (IsAntiRow Matches) (λ (row : AntiRow). row.id)
    (left_of Matches) left right left_lot right_lot (whole_row Matches left right left_lot right_lot together)
    (lot_row Matches left right left_lot right_lot together) rise lot whole rows

pub whole_anti_is_of_lots : WholeAntiIsOfLots
whole_anti_is_of_lots left_columns right_columns on left right left_lot right_lot anti_of whole together =
    let Matches = MatchesOn left_columns right_columns on in
    whole_answers AntiRowBefore (before-asym anti_cmp anti_total) (IsAntiRow Matches) (λ (row : AntiRow). row.id)
    (left_of Matches) left right left_lot right_lot (whole_row Matches left right left_lot right_lot together)
    (lot_row Matches left right left_lot right_lot together) anti_of whole

pub lot_antis_are_apart : LotAntisAreApart
lot_antis_are_apart left_columns right_columns on left right left_lot right_lot one other rows more row rise =
    let Matches = MatchesOn left_columns right_columns on in
    lots_apart AntiRowBefore (before-asym anti_cmp anti_total) (IsAntiRow Matches) (λ (r : AntiRow). r.id)
    (left_of Matches) left right left_lot right_lot rise one other rows more row
