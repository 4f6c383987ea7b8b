-- The columns that rows of two tables are compared by.
use Rattle.std.specs.Prelude.{◌≡◌, ℕ, List, [], ◌∷◌, flat_map, Bool, false, not, Option, is_none, option_and_then, slice_get, All}
use Rattle.std.specs.Option.{option_map_or}
use Rattle.row_core.specs.Name.{NamePair}
use Rattle.row_core.specs.Refusals.{first_of}
use Rattle.row_core.specs.Schema.{column_of, kind_in}
use Rattle.row_core.specs.Value.{same_kind}
use Rattle.row_core.specs.declared.row.Row.{Row}
use Rattle.row_core.specs.declared.schema.Column.{Column}
use Rattle.row_core.specs.declared.value.Kind.{Kind}
use Rattle.row_core.specs.declared.value.Value.{Value}
use Rattle.match_core.specs.declared.columns.QueryRefused.{QueryRefused}
use Rattle.match_core.specs.declared.columns.QueryRefused.TheVariants.{NoColumn, WrongKind}

-- Both kinds exist and differ.
abbrev pub kinds_differ : Option Kind → Option Kind → Bool
kinds_differ one other = option_map_or (λ k. option_map_or (λ l. not (same_kind k l)) other false) one false

-- The tests of a pair's two columns, in this order.
abbrev pub tests_of_names : List Column → List Column → NamePair → List (Bool × QueryRefused)
tests_of_names left right names =
    (is_none (kind_in left names.0), NoColumn)
    ∷ (is_none (kind_in right names.1), NoColumn)
    ∷ (kinds_differ (kind_in left names.0) (kind_in right names.1), WrongKind)
    ∷ []

-- Why the tables can't be compared by these pairs of names: the first test that applies, pair by pair.
abbrev pub columns_refusal : List Column → List Column → List NamePair → Option QueryRefused
columns_refusal left right on = first_of (flat_map (tests_of_names left right) on)

-- The row's value in the column with the name.
abbrev pub value_under : List Column → List ℕ → Row → Option Value
value_under columns name row = option_and_then (slice_get row.values) (column_of columns name)

-- A left row and a right row are equal in each named pair of columns.
abbrev pub MatchesOn : List Column → List Column → List NamePair → Row → Row → Type 0
MatchesOn left right on x y = All (λ names. value_under left names.0 x ≡ value_under right names.1 y) on
