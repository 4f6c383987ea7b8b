-- The anti-join of rows that stand for others.
use Rattle.std.proofs.Common.{◌≡◌, ℕ, ℤ, List, map, refl, sym, ap, subst, ◌∙◌}
use Rattle.std.specs.Prelude.{Contains}
use Rattle.std.specs.Ordering.{int_cmp, ordering_then}
use Rattle.period_core.specs.declared.period.Period.{Period}
use Rattle.period_core.specs.Period.{Holds}
use Rattle.row_core.specs.Name.{NamePair}
use Rattle.row_core.specs.declared.row.Row.{Row}
use Rattle.row_core.specs.declared.schema.Column.{Column}
use Rattle.list_core.proofs.MadeLemmas.{Contains-map, Contains-map_source}
use Rattle.match_core.specs.Columns.{MatchesOn}
use Rattle.match_core.specs.StandIns.{MatchAlike, StandFor}
use Rattle.match_core.proofs.StandInLemmas.{answers_there, ids_alike, stand_ins_of_codes}
use Rattle.merge_core.specs.Gaps.{IsMaximal}
use Rattle.merge_core.proofs.SweepLemmas.{IsMaximal-same}
use Rattle.anti_core.specs.declared.rows.AntiRow.{AntiRow}
use Rattle.anti_core.specs.Anti.{AntiRowBefore, IsAntiRow, IsMet, IsUnmet, anti_cmp}
use Rattle.anti_core.specs.AntiStandIns.{AntiIsOfCodes, AntiIsOfStandIns, anti_row_of}
use Rattle.anti_core.proofs.OrderLemmas.{AntiRow-same_fields}

module _ (left_here right_here left_there right_there : List Column) (on_here on_there : List NamePair)
    (left right : List Row) (left_of right_of : Row → Row) (left_id right_id : ℕ → ℕ)
    (lefts : StandFor left_of left_id left)
    (rights : StandFor right_of right_id right)
    (alike : MatchAlike (MatchesOn left_here right_here on_here) (MatchesOn left_there right_there on_there) left_of right_of
    left right) where
  -- A row of the anti-join of the rows that stand for others.
  abbrev IsRowHere : AntiRow → Type 0
  IsRowHere = IsAntiRow (MatchesOn left_here right_here on_here) left right

  -- A row of the anti-join of the others.
  abbrev IsRowThere : AntiRow → Type 0
  IsRowThere = IsAntiRow (MatchesOn left_there right_there on_there) (map left_of left) (map right_of right)

  module _ (x : Row) (x_in : Contains left x) where
    -- The unmet instants of a row.
    abbrev Here : ℤ → Type 0
    Here = IsUnmet (MatchesOn left_here right_here on_here) right x

    -- The unmet instants of the row that it stands for.
    abbrev There : ℤ → Type 0
    There = IsUnmet (MatchesOn left_there right_there on_there) (map right_of right) (left_of x)

    -- an instant that is met here is met there
    met_there : (t : ℤ) → IsMet (MatchesOn left_here right_here on_here) right x t
        → IsMet (MatchesOn left_there right_there on_there) (map right_of right) (left_of x) t
    met_there t m = record {
      by = right_of m.by;
      by_in = Contains-map right_of right m.by m.by_in;
      matches = (alike x m.by x_in m.by_in).0 m.matches;
      holds = subst (λ (p : Period). Holds p t) (sym (rights.period_is m.by m.by_in)) m.holds;
    }

    -- and vice versa
    met_here : (t : ℤ) → IsMet (MatchesOn left_there right_there on_there) (map right_of right) (left_of x) t
        → IsMet (MatchesOn left_here right_here on_here) right x t
    met_here t m =
        let (y, y_in, y_is) = Contains-map_source right_of right m.by m.by_in in
        let held : Holds (right_of y).period t = subst (λ (v : Row). Holds v.period t) (sym y_is) m.holds in
        record {
          by = y;
          by_in = y_in;
          matches = (alike x y x_in y_in).1
              (subst (λ (v : Row). MatchesOn left_there right_there on_there (left_of x) v) (sym y_is) m.matches);
          holds = subst (λ (p : Period). Holds p t) (rights.period_is y y_in) held;
        }

    -- so the same instants are unmet
    unmet_there : (t : ℤ) → Here t → There t
    unmet_there t u = record {
      held = subst (λ (p : Period). Holds p t) (sym (lefts.period_is x x_in)) u.held;
      unmet = λ m. u.unmet (met_here t m);
    }

    unmet_here : (t : ℤ) → There t → Here t
    unmet_here t u = record {
      held = subst (λ (p : Period). Holds p t) (lefts.period_is x x_in) u.held;
      unmet = λ m. u.unmet (met_there t m);
    }

  -- the first is, with a mapped id, the second
  row_there : (row : AntiRow) → IsRowHere row → IsRowThere (anti_row_of left_id row)
  row_there row is = record {
    x = left_of is.x;
    x_in = Contains-map left_of left is.x is.x_in;
    id = ap left_id is.id ∙ sym (lefts.id_is is.x is.x_in);
    maximal = IsMaximal-same (Here is.x is.x_in) (There is.x is.x_in) row.period (unmet_there is.x is.x_in)
        (unmet_here is.x is.x_in) is.maximal;
  }

  -- and each of the second comes from one of the first
  row_here : (row : AntiRow) → IsRowThere row → (some : AntiRow) × IsRowHere some × (anti_row_of left_id some ≡ row)
  row_here row is =
      let (x, x_in, x_is) = Contains-map_source left_of left is.x is.x_in in
      let some : AntiRow = record { id = x.id; period = row.period } in
      let maximal : IsMaximal (There x x_in) row.period =
      subst
      (λ (v : Row). IsMaximal (IsUnmet (MatchesOn left_there right_there on_there) (map right_of right) v) row.period)
      (sym x_is) is.maximal in (
        some,
        record {
          x = x;
          x_in = x_in;
          id = refl;
          maximal = IsMaximal-same (There x x_in) (Here x x_in) row.period (unmet_here x x_in) (unmet_there x x_in)
              maximal;
        },
        AntiRow-same_fields (anti_row_of left_id some) row
            (sym (lefts.id_is x x_in) ∙ ap (λ (v : Row). v.id) x_is ∙ sym is.id) refl,
      )

  -- both are in the same order
  rows_alike : (a b : AntiRow) → anti_cmp (anti_row_of left_id a) (anti_row_of left_id b) ≡ anti_cmp a b
  rows_alike a b =
      λ i. ordering_then (ids_alike left_of left_id left lefts a.id b.id i)
      (ordering_then (int_cmp a.period.from b.period.from) (int_cmp a.period.to b.period.to))

-- for any columns
pub anti_is_of_codes : AntiIsOfCodes
anti_is_of_codes left_here right_here left_there right_there on_here on_there left right left_of right_of left_id
    right_id rows lefts rights alike =
    answers_there AntiRowBefore (IsAntiRow (MatchesOn left_here right_here on_here) left right)
    (IsAntiRow (MatchesOn left_there right_there on_there) (map left_of left) (map right_of right))
    (anti_row_of left_id) rows
    (λ a b before. rows_alike left_here right_here left_there right_there on_here on_there left right left_of right_of
    left_id right_id lefts rights alike a b ∙ before)
    (row_there left_here right_here left_there right_there on_here on_there left right left_of right_of left_id right_id
    lefts rights alike)
    (row_here left_here right_here left_there right_there on_here on_there left right left_of right_of left_id right_id
    lefts rights alike)

pub anti_is_of_stand_ins : AntiIsOfStandIns
anti_is_of_stand_ins =
    stand_ins_of_codes AntiRowBefore IsAntiRow (λ (left_id right_id : ℕ → ℕ). anti_row_of left_id) anti_is_of_codes
