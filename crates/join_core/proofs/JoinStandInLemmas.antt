-- The join of rows that stand for others.
use Rattle.std.proofs.Common.{◌≡◌, ℕ, List, map, refl, sym, ap, subst, ◌∙◌}
use Rattle.std.specs.Ordering.{int_cmp, ordering_then}
use Rattle.period_core.specs.declared.period.Period.{Period}
use Rattle.row_core.specs.Name.{NamePair}
use Rattle.row_core.specs.declared.row.Row.{Row}
use Rattle.row_core.specs.declared.schema.Column.{Column}
use Rattle.list_core.proofs.MadeLemmas.{Contains-map, Contains-map_source}
use Rattle.match_core.specs.Columns.{MatchesOn}
use Rattle.match_core.specs.StandIns.{MatchAlike, StandFor}
use Rattle.match_core.proofs.StandInLemmas.{answers_there, ids_alike, stand_ins_of_codes}
use Rattle.merge_core.specs.Hits.{IsShared}
use Rattle.join_core.specs.declared.rows.JoinRow.{JoinRow}
use Rattle.join_core.specs.Join.{IsJoinRow, RowBefore, join_cmp}
use Rattle.join_core.specs.JoinStandIns.{JoinIsOfCodes, JoinIsOfStandIns, join_row_of}
use Rattle.join_core.proofs.OrderLemmas.{JoinRow-same_fields}

-- equal periods share the same period
shared_alike : (a b c d p : Period) → a ≡ c → b ≡ d → IsShared a b p → IsShared c d p
shared_alike a b c d p e f shared =
    subst (λ (v : Period). IsShared v d p) e (subst (λ (v : Period). IsShared a v p) f shared)

module _ (left_here right_here left_there right_there : List Column) (on_here on_there : List NamePair)
    (left right : List Row) (left_of right_of : Row → Row) (left_id right_id : ℕ → ℕ)
    (lefts : StandFor left_of left_id left)
    (rights : StandFor right_of right_id right)
    (alike : MatchAlike (MatchesOn left_here right_here on_here) (MatchesOn left_there right_there on_there) left_of right_of
    left right) where
  -- A row of the join of the rows that stand for others.
  abbrev IsRowHere : JoinRow → Type 0
  IsRowHere = IsJoinRow (MatchesOn left_here right_here on_here) left right

  -- A row of the join of the others.
  abbrev IsRowThere : JoinRow → Type 0
  IsRowThere = IsJoinRow (MatchesOn left_there right_there on_there) (map left_of left) (map right_of right)

  -- the first is, with mapped ids, the second
  row_there : (row : JoinRow) → IsRowHere row → IsRowThere (join_row_of left_id right_id row)
  row_there row is = record {
    x = left_of is.x;
    y = right_of is.y;
    x_in = Contains-map left_of left is.x is.x_in;
    y_in = Contains-map right_of right is.y is.y_in;
    left_id = ap left_id is.left_id ∙ sym (lefts.id_is is.x is.x_in);
    right_id = ap right_id is.right_id ∙ sym (rights.id_is is.y is.y_in);
    matches = (alike is.x is.y is.x_in is.y_in).0 is.matches;
    shared = shared_alike is.x.period is.y.period (left_of is.x).period (right_of is.y).period row.period
        (sym (lefts.period_is is.x is.x_in)) (sym (rights.period_is is.y is.y_in)) is.shared;
  }

  -- and each of the second comes from one of the first
  row_here : (row : JoinRow) → IsRowThere row
      → (some : JoinRow) × IsRowHere some × (join_row_of left_id right_id some ≡ row)
  row_here row is =
      let (x, x_in, x_is) = Contains-map_source left_of left is.x is.x_in in
      let (y, y_in, y_is) = Contains-map_source right_of right is.y is.y_in in
      let some : JoinRow = record { period = row.period; left = x.id; right = y.id } in (
        some,
        record {
          x = x;
          y = y;
          x_in = x_in;
          y_in = y_in;
          left_id = refl;
          right_id = refl;
          matches = (alike x y x_in y_in).1
              (subst (λ (v : Row). MatchesOn left_there right_there on_there v (right_of y)) (sym x_is)
              (subst (λ (v : Row). MatchesOn left_there right_there on_there is.x v) (sym y_is) is.matches));
          shared = shared_alike is.x.period is.y.period x.period y.period row.period
              (ap (λ (v : Row). v.period) (sym x_is) ∙ lefts.period_is x x_in)
              (ap (λ (v : Row). v.period) (sym y_is) ∙ rights.period_is y y_in) is.shared;
        },
        JoinRow-same_fields (join_row_of left_id right_id some) row refl
            (sym (lefts.id_is x x_in) ∙ ap (λ (v : Row). v.id) x_is ∙ sym is.left_id)
            (sym (rights.id_is y y_in) ∙ ap (λ (v : Row). v.id) y_is ∙ sym is.right_id),
      )

  -- both are in the same order
  rows_alike : (a b : JoinRow) → join_cmp (join_row_of left_id right_id a) (join_row_of left_id right_id b) ≡ join_cmp a b
  rows_alike a b =
      λ i. ordering_then (ordering_then (int_cmp a.period.from b.period.from) (int_cmp a.period.to b.period.to))
      (ordering_then (ids_alike left_of left_id left lefts a.left b.left i) (ids_alike right_of right_id right rights a.right b.right i))

-- for any columns
pub join_is_of_codes : JoinIsOfCodes
join_is_of_codes left_here right_here left_there right_there on_here on_there left right left_of right_of left_id
    right_id rows lefts rights alike =
    answers_there RowBefore (IsJoinRow (MatchesOn left_here right_here on_here) left right)
    (IsJoinRow (MatchesOn left_there right_there on_there) (map left_of left) (map right_of right))
    (join_row_of left_id right_id) rows
    (λ a b before. rows_alike left_here right_here left_there right_there on_here on_there left right left_of right_of
    left_id right_id lefts rights alike a b ∙ before)
    (row_there left_here right_here left_there right_there on_here on_there left right left_of right_of left_id right_id
    lefts rights alike)
    (row_here left_here right_here left_there right_there on_here on_there left right left_of right_of left_id right_id
    lefts rights alike)

pub join_is_of_stand_ins : JoinIsOfStandIns
join_is_of_stand_ins = stand_ins_of_codes RowBefore IsJoinRow join_row_of join_is_of_codes
