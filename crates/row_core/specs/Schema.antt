-- The columns of a table, and the values that fit them.
use Rattle.std.specs.Prelude.{bytes_eq, ◌≢◌, ◌≤◌, ◌<◌, ℕ, List, [], ◌∷◌, ◌++◌, length, map, count_by, Bool, false, ◌||◌, Option, Some, None, IsSome, is_none, is_some, option_map, option_and_then, slice_get, Result, position, nat_eq, nat_lt, AllPairs}
use Rattle.std.specs.Cmp.Lexicographic.{pointwise}
use Rattle.std.specs.List.{filter_map, list_any, range_with_len}
use Rattle.std.specs.Option.{option_eq}
use Rattle.row_core.specs.Limits.{column_limit}
use Rattle.row_core.specs.Refusals.{first_of, refused_or}
use Rattle.row_core.specs.Value.{kind_of, same_kind}
use Rattle.row_core.specs.declared.schema.Column.{Column}
use Rattle.row_core.specs.declared.schema.SchemaRefused.{SchemaRefused}
use Rattle.row_core.specs.declared.schema.SchemaRefused.TheVariants.{TooMany, TwiceNamed}
use Rattle.row_core.specs.declared.schema.KeyRefused.{KeyRefused}
use Rattle.row_core.specs.declared.schema.KeyRefused.TheVariants as key
use Rattle.row_core.specs.declared.value.Kind.{Kind}
use Rattle.row_core.specs.declared.value.Value.{Value}

-- two pairs have the same name
abbrev pub has_twins : List (List ℕ × Kind) → Bool
has_twins [] = false
has_twins (pair ∷ pairs) = list_any (λ other. bytes_eq pair.0 other.0) pairs || has_twins pairs

-- the column is part of the key
abbrev pub is_in_key : Column → Bool
is_in_key column = is_some column.key

-- the index of the column at index `i` of the key
abbrev pub key_place : List Column → ℕ → Option ℕ
key_place columns i = position (λ column. option_eq nat_eq column.key (Some i)) columns

-- the indexes of the key's columns, in the order of the key's names
abbrev pub key_of : List Column → List ℕ
key_of columns = filter_map (key_place columns) (range_with_len 0 (count_by is_in_key columns))

-- at most 16 columns with different names; if `k` are in the key, their key indexes are 0 to `k` - 1
pub record IsSchema (columns : List Column) : Type 0 where
  pub few : length columns ≤ column_limit
  pub distinct : AllPairs (λ one other. one.name ≢ other.name) columns
  pub keyed : (i : ℕ) → i < count_by is_in_key columns → IsSome (key_place columns i)

-- the columns with these names and kinds
abbrev pub columns_of : List (List ℕ × Kind) → List Column
columns_of pairs = map (λ pair. record { name = pair.0; kind = pair.1; key = None }) pairs

-- the columns, or the reason to refuse them
abbrev pub schema_of : List (List ℕ × Kind) → Result (List Column) SchemaRefused
schema_of pairs =
    refused_or (first_of ((nat_lt column_limit (length pairs), TooMany) ∷ (has_twins pairs, TwiceNamed) ∷ []))
    (columns_of pairs)

-- as many values as columns, each of its column's kind
abbrev pub fits : List Column → List Value → Bool
fits columns values = pointwise (λ column value. same_kind column.kind (kind_of value)) columns values

-- the index of the column with that name
abbrev pub column_of : List Column → List ℕ → Option ℕ
column_of columns name = position (λ column. bytes_eq column.name name) columns

-- the kind of the column with that name
abbrev pub kind_in : List Column → List ℕ → Option Kind
kind_in columns name = option_map (λ column. column.kind) (option_and_then (slice_get columns) (column_of columns name))

-- the column with its index among the names of a key, if it is one of them
abbrev pub in_key : List (List ℕ) → Column → Column
in_key names column = record column { key = position (λ name. bytes_eq name column.name) names }

-- the columns with a key of the named ones
abbrev pub keyed : List Column → List (List ℕ) → List Column
keyed columns names = map (in_key names) columns

-- the tests of a key's names, in this order; the `others` are the names before them
abbrev pub key_tests : List Column → List (List ℕ) → List (List ℕ) → List (Bool × KeyRefused)
key_tests columns others [] = []
key_tests columns others (name ∷ names) =
    (is_none (column_of columns name), key.NoColumn)
    ∷ (is_some (position (λ other. bytes_eq other name) others), key.TwiceNamed)
    ∷ key_tests columns (others ++ name ∷ []) names

-- the columns with that key, or the reason to refuse it
abbrev pub keyed_of : List Column → List (List ℕ) → Result (List Column) KeyRefused
keyed_of columns names = refused_or (first_of (key_tests columns [] names)) (keyed columns names)
