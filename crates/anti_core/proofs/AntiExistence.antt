-- Any rows of two tables have exactly one anti-join.
use Rattle.std.proofs.Common.{◌≡◌, ◌⊎◌, inl, inr, ℤ, List, [], ◌∷◌, map, refl, sym, subst}
use Rattle.std.specs.Prelude.{Contains}
use Rattle.period_core.specs.declared.period.Period.{Period}
use Rattle.period_core.specs.Period.{Holds}
use Rattle.row_core.specs.declared.row.Row.{Row}
use Rattle.row_core.specs.declared.schema.Column.{Column}
use Rattle.list_core.proofs.RisingLemmas.{Contains-head, Contains-cons, Contains-cons_cases, Contains-none, IsListOf-unique}
use Rattle.list_core.proofs.WantedLemmas.{IsListOf-same}
use Rattle.list_core.proofs.WantedExistence.{IsUnorderedListOf, WantedForSome, some_unordered, some_wanted}
use Rattle.row_core.specs.Name.{NamePair}
use Rattle.match_core.specs.Columns.{MatchesOn}
use Rattle.match_core.proofs.Matching.{match_or_not}
use Rattle.merge_core.specs.Gaps.{IsMaximal}
use Rattle.merge_core.proofs.SharedLemmas.{first_held}
use Rattle.anti_core.specs.declared.rows.AntiRow.{AntiRow}
use Rattle.anti_core.specs.Anti.{anti_cmp, AntiRowBefore, IsMet, IsUnmet, IsAntiRow, IsAnti}
use Rattle.list_core.proofs.MadeLemmas.{Contains-map, Contains-map_source}
use Rattle.list_core.proofs.OrderedLemmas.{before-asym}
use Rattle.merge_core.proofs.MaximalAround.{maximal-once}
use Rattle.anti_core.proofs.MaximalLemmas.{AreMaximal, AreMaximal-same, AreMaximal-whole, Without, some_without}
use Rattle.anti_core.proofs.OrderLemmas.{AntiRow-same_fields, anti_total, tied_rows}

module _ (Matches : Row → Row → Type 0) (decided : (x y : Row) → Matches x y ⊎ (Matches x y → ⊥)) where
  -- without right rows all instants of a row are unmet
  none-unmet : (x : Row) (t : ℤ) → Holds x.period t → IsUnmet Matches [] x t
  none-unmet x t h = record { held = h; unmet = λ m. Contains-none m.by m.by_in }

  -- a met instant stays met with one more right row
  pub met-more : (x y : Row) (right : List Row) (t : ℤ) → IsMet Matches right x t → IsMet Matches (y ∷ right) x t
  met-more x y right t is =
      record { by = is.by; by_in = Contains-cons y right is.by is.by_in; matches = is.matches; holds = is.holds }

  -- an instant that is met with one more right row is met by that row, or was met before
  pub met-cases : (x y : Row) (right : List Row) (t : ℤ) → IsMet Matches (y ∷ right) x t
      → (Matches x y × Holds y.period t) ⊎ IsMet Matches right x t
  met-cases x y right t is = elim (Contains-cons_cases y right is.by is.by_in) [
    | inl e ↦ inl (
      subst (Matches x) (sym e) is.matches,
      subst (λ (v : Row). Holds v.period t) (sym e) is.holds,
    )
    | inr later ↦ inr (record { by = is.by; by_in = later; matches = is.matches; holds = is.holds })
  ]

  -- an instant that is unmet with one more matching right row was unmet before, and the row doesn't hold it
  unmet-without : (x y : Row) (right : List Row) → Matches x y → (t : ℤ) → IsUnmet Matches (y ∷ right) x t
      → Without (IsUnmet Matches right x) y.period t
  unmet-without x y right same t is = (
    record { held = is.held; unmet = λ m. is.unmet (met-more x y right t m) },
    λ h. is.unmet (record { by = y; by_in = Contains-head y right; matches = same; holds = h }),
  )

  -- and vice versa
  without-unmet : (x y : Row) (right : List Row) (t : ℤ) → Without (IsUnmet Matches right x) y.period t
      → IsUnmet Matches (y ∷ right) x t
  without-unmet x y right t is = record {
    held = is.0.held;
    unmet = λ m. elim (met-cases x y right t m) [ inl now ↦ is.1 now.1 | inr before ↦ is.0.unmet before ];
  }

  -- one more right row that doesn't match changes nothing
  unmet-back : (x y : Row) (right : List Row) (t : ℤ) → IsUnmet Matches (y ∷ right) x t → IsUnmet Matches right x t
  unmet-back x y right t is = record { held = is.held; unmet = λ m. is.unmet (met-more x y right t m) }

  unmet-more : (x y : Row) (right : List Row) → (Matches x y → ⊥) → (t : ℤ) → IsUnmet Matches right x t
      → IsUnmet Matches (y ∷ right) x t
  unmet-more x y right differ t is = record {
    held = is.held;
    unmet = λ m. elim (met-cases x y right t m) [ inl now ↦ differ now.0 | inr before ↦ is.unmet before ];
  }

  -- the maximal periods of a row's unmet instants
  some_periods : (x : Row) (right : List Row) → (periods : List Period) × AreMaximal (IsUnmet Matches right x) periods
  some_periods x [] = (
    x.period ∷ [],
    AreMaximal-same (Holds x.period) (IsUnmet Matches [] x) (x.period ∷ []) (none-unmet x) (λ t is. is.held)
        (AreMaximal-whole x.period),
  )
  some_periods x (y ∷ right) =
      let (periods, are) = some_periods x right in
      elim (decided x y) [
        | inl same ↦
            let (left, all) = some_without (IsUnmet Matches right x) y.period periods are in (
              left,
              AreMaximal-same (Without (IsUnmet Matches right x) y.period) (IsUnmet Matches (y ∷ right) x) left
                  (without-unmet x y right) (unmet-without x y right same) all,
            )
        | inr differ ↦ (
          periods,
          AreMaximal-same (IsUnmet Matches right x) (IsUnmet Matches (y ∷ right) x) periods
              (unmet-more x y right differ) (unmet-back x y right) are,
        )
      ]

  -- A row of one left row.
  record IsRowOf (right : List Row) (x : Row) (row : AntiRow) : Type 0 where
    id : row.id ≡ x.id
    maximal : IsMaximal (IsUnmet Matches right x) row.period

  -- The row of a period.
  row_of : Row → Period → AntiRow
  row_of x p = record { id = x.id; period = p }

  -- the rows of one left row
  some_rows : (right : List Row) (x : Row) → (rows : List AntiRow) × IsUnorderedListOf (IsRowOf right x) rows
  unfolding row_of
  some_rows right x =
      let (periods, are) = some_periods x right in (
        map (row_of x) periods,
        λ row. (
          λ h. (let (p, member, e) = Contains-map_source (row_of x) periods row h in
              subst (IsRowOf right x) e (record { id = refl; maximal = are.maximal p member })),
          λ is. (let first = first_held row.period in
              let (p, member, held) = are.all row.period.from (is.maximal.inside row.period.from first) in
              let same : p ≡ row.period =
              maximal-once (IsUnmet Matches right x) p row.period row.period.from (are.maximal p member) is.maximal held
              first in
              let e : row_of x p ≡ row = AntiRow-same_fields (row_of x p) row (sym is.id) same in
              subst (Contains (map (row_of x) periods)) e (Contains-map (row_of x) periods p member)),
        ),
      )

  -- rows with a decidable match have an anti-join
  some_anti_of : (left right : List Row) → (rows : List AntiRow) × IsAnti Matches left right rows
  some_anti_of left right =
      let (unordered, all) = some_unordered (IsRowOf right) (some_rows right) left in
      let (rows, is) = some_wanted anti_cmp anti_total tied_rows (WantedForSome (IsRowOf right) left) unordered all in (
        rows,
        IsListOf-same AntiRowBefore (WantedForSome (IsRowOf right) left) (IsAntiRow Matches left right) rows
            (λ row (x, x_in, of). record { x = x; x_in = x_in; id = of.id; maximal = of.maximal })
            (λ row of. (of.x, of.x_in, record { id = of.id; maximal = of.maximal })) is,
      )

-- any rows have an anti-join, for any pairs of columns
pub some_anti : (left_columns right_columns : List Column) (on : List NamePair) (left right : List Row)
    → (rows : List AntiRow) × IsAnti (MatchesOn left_columns right_columns on) left right rows
some_anti left_columns right_columns on left right =
    some_anti_of (MatchesOn left_columns right_columns on) (match_or_not left_columns right_columns on) left right

-- and no other one
pub one_anti : (left_columns right_columns : List Column) (on : List NamePair) (left right : List Row)
    (one other : List AntiRow) → IsAnti (MatchesOn left_columns right_columns on) left right one
    → IsAnti (MatchesOn left_columns right_columns on) left right other → one ≡ other
one_anti left_columns right_columns on left right one other is is' =
    IsListOf-unique AntiRowBefore (IsAntiRow (MatchesOn left_columns right_columns on) left right) one other
    (before-asym anti_cmp anti_total) is is'
