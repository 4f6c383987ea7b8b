-- Any rows of two tables have exactly one join.
use Rattle.std.proofs.Common.{◌≡◌, ◌⊎◌, ◌↔◌, inl, inr, ℤ, List, [], ◌∷◌, Option, Some, None, refl, sym}
use Rattle.period_core.specs.declared.period.Period.{Period}
use Rattle.period_core.specs.Period.{Holds, HoldsIn, meet}
use Rattle.period_core.proofs.PeriodLemmas.{meet-holds}
use Rattle.row_core.specs.declared.row.Row.{Row}
use Rattle.row_core.specs.declared.schema.Column.{Column}
use Rattle.list_core.proofs.WantedLemmas.{IsListOf-same}
use Rattle.list_core.proofs.WantedExistence.{IsUnorderedListOf, IsUnorderedListOf-none, IsUnorderedListOf-one, WantedForSome, some_unordered, some_wanted}
use Rattle.row_core.specs.Name.{NamePair}
use Rattle.match_core.specs.Columns.{MatchesOn}
use Rattle.match_core.proofs.Matching.{match_or_not}
use Rattle.merge_core.specs.Hits.{IsShared}
use Rattle.merge_core.proofs.SharedLemmas.{first_held, shared_once}
use Rattle.join_core.specs.declared.rows.JoinRow.{JoinRow}
use Rattle.join_core.specs.Join.{IsJoin, IsJoinRow, RowBefore, join_cmp}
use Rattle.join_core.proofs.OrderLemmas.{IsJoin-unique, JoinRow-same_fields, join_total, tied_rows}

module _ (Matches : Row → Row → Type 0) (decided : (x y : Row) → Matches x y ⊎ (Matches x y → ⊥)) where
  -- The ids of two rows that match, with the period they share.
  record IsRowOfTwo (x y : Row) (row : JoinRow) : Type 0 where
    left_id : row.left ≡ x.id
    right_id : row.right ≡ y.id
    matches : Matches x y
    shared : IsShared x.period y.period row.period

  -- the row of two matching rows, if they share an instant
  row_of_matches : (x y : Row) → Matches x y → (met : Option Period)
      → ((t : ℤ) → HoldsIn met t ↔ (Holds x.period t × Holds y.period t))
      → (rows : List JoinRow) × IsUnorderedListOf (IsRowOfTwo x y) rows
  row_of_matches x y same None holds = (
    [],
    IsUnorderedListOf-none (IsRowOfTwo x y)
        (λ row is. (holds row.period.from).1 ((is.shared row.period.from).0 (first_held row.period))),
  )
  row_of_matches x y same (Some p) holds =
      let row : JoinRow = record { period = p; left = x.id; right = y.id } in (
        row ∷ [],
        IsUnorderedListOf-one (IsRowOfTwo x y) row
            (record { left_id = refl; right_id = refl; matches = same; shared = holds })
            (λ other is.
            JoinRow-same_fields row other (shared_once x.period y.period p other.period holds is.shared)
            (sym is.left_id) (sym is.right_id)),
      )

  -- the row of two rows, if they match and share an instant
  row_of_two : (x y : Row) → (rows : List JoinRow) × IsUnorderedListOf (IsRowOfTwo x y) rows
  row_of_two x y = elim (decided x y) [
    | inl same ↦ row_of_matches x y same (meet x.period y.period) (meet-holds x.period y.period)
    | inr differ ↦ ([], IsUnorderedListOf-none (IsRowOfTwo x y) (λ row is. differ is.matches))
  ]

  -- The row of some left and some right row.
  abbrev IsRowOfSome : List Row → List Row → JoinRow → Type 0
  IsRowOfSome left right = WantedForSome (λ x. WantedForSome (IsRowOfTwo x) right) left

  -- rows with a decidable match have a join
  some_join_of : (left right : List Row) → (rows : List JoinRow) × IsJoin Matches left right rows
  some_join_of left right =
      let (unordered, all) =
      some_unordered (λ x. WantedForSome (IsRowOfTwo x) right)
      (λ x. some_unordered (IsRowOfTwo x) (row_of_two x) right) left in
      let (rows, is) = some_wanted join_cmp join_total tied_rows (IsRowOfSome left right) unordered all in (
        rows,
        IsListOf-same RowBefore (IsRowOfSome left right) (IsJoinRow Matches left right) rows
            (λ row (x, x_in, (y, y_in, of)). record {
              x = x;
              y = y;
              x_in = x_in;
              y_in = y_in;
              left_id = of.left_id;
              right_id = of.right_id;
              matches = of.matches;
              shared = of.shared;
            })
            (λ row of. (
              of.x,
              of.x_in,
              (
                of.y,
                of.y_in,
                record {
                  left_id = of.left_id;
                  right_id = of.right_id;
                  matches = of.matches;
                  shared = of.shared;
                },
              ),
            ))
            is,
      )

-- any rows have a join, for any pairs of columns
pub some_join : (left_columns right_columns : List Column) (on : List NamePair) (left right : List Row)
    → (rows : List JoinRow) × IsJoin (MatchesOn left_columns right_columns on) left right rows
some_join left_columns right_columns on left right =
    some_join_of (MatchesOn left_columns right_columns on) (match_or_not left_columns right_columns on) left right

-- and no other one
pub one_join : (left_columns right_columns : List Column) (on : List NamePair) (left right : List Row)
    (one other : List JoinRow) → IsJoin (MatchesOn left_columns right_columns on) left right one
    → IsJoin (MatchesOn left_columns right_columns on) left right other → one ≡ other
one_join left_columns right_columns on left right one other is is' =
    IsJoin-unique (MatchesOn left_columns right_columns on) left right one other is is'
