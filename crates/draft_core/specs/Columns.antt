-- Rows stored by column.
use Rattle.std.specs.Prelude.{◌≡◌, ◌⊎◌, ◌≤◌, Bool, ℕ, suc, pos, List, [], ◌∷◌, All, get_or, length, map, take}
use Rattle.std.specs.Cmp.Lexicographic.{pointwise}
use Rattle.period_core.specs.declared.period.Period.{Period}
use Rattle.row_core.specs.Value.{same_kind}
use Rattle.draft_core.specs.declared.column_values.ColumnValues.{ColumnValues}
use Rattle.draft_core.specs.declared.column_values.ColumnValues.TheVariants as column
use Rattle.row_core.specs.declared.draft.Draft.{Draft}
use Rattle.row_core.specs.declared.schema.Column.{Column}
use Rattle.row_core.specs.declared.value.Kind.{Kind}
use Rattle.row_core.specs.declared.value.Kind.TheVariants as kind
use Rattle.row_core.specs.declared.value.Value.{Value}
use Rattle.row_core.specs.declared.value.Value.TheVariants.{Int, Text}

-- the values of a column
abbrev pub values_of_column : ColumnValues → List Value
values_of_column (column.Numbers numbers) = map Int numbers.items
values_of_column (column.Texts texts) = map Text texts

-- the kind of the values
abbrev pub kind_of_column : ColumnValues → Kind
kind_of_column (column.Numbers numbers) = kind.Int
kind_of_column (column.Texts texts) = kind.Text

-- the values that the columns have at an index
abbrev pub values_at : List (List Value) → ℕ → List Value
values_at columns place = map (λ column. get_or column place (Int (pos 0))) columns

-- the draft of a period and values
abbrev pub draft_of : Period → List Value → Draft
draft_of period values = record { period = period; values = values }

-- the rows with these periods; their values are in the columns, from an index on
abbrev pub rows_by_column : ℕ → List Period → List (List Value) → List Draft
rows_by_column place [] columns = []
rows_by_column place (period ∷ periods) columns =
    draft_of period (values_at columns place) ∷ rows_by_column (suc place) periods columns

-- each column has at least `count` values
abbrev pub AreLong : ℕ → List ColumnValues → Type 0
AreLong count columns = All (λ column. count ≤ length (values_of_column column)) columns

-- the columns keep their kinds and their first `count` values
abbrev pub Keep : ℕ → List ColumnValues → List ColumnValues → Type 0
Keep count old new = (map kind_of_column new ≡ map kind_of_column old)
    × (map (λ column. take count (values_of_column column)) new
    ≡ map (λ column. take count (values_of_column column)) old)

-- a kind for each column of a table, the same as the column's
abbrev pub kinds_fit : List Column → List Kind → Bool
kinds_fit columns kinds = pointwise (λ column kind. same_kind column.kind kind) columns kinds

-- the kinds of columns, and the rows in them
pub record AlikeRows : Type 0 where
  pub kinds : List Kind
  pub rows : List Draft

-- rows of these kinds can be added to the columns: they have no rows yet, or the same kinds
abbrev pub Takes : AlikeRows → List Kind → Type 0
Takes columns kinds = (columns.rows ≡ []) ⊎ (kinds ≡ columns.kinds)
