-- Values for the columns of a table: the wanted values of conditions, and the values to set.
use Rattle.std.specs.Prelude.{List, [], ◌∷◌, Bool, true, false, ◌&&◌, Option, Some, None, unwrap_or}
use Rattle.row_core.specs.ValueOrder.{same_value}
use Rattle.row_core.specs.declared.value.Value.{Value}

-- the row has the wanted value in each column that has one
abbrev pub are_wanted : List (Option Value) → List Value → Bool
are_wanted [] values = true
are_wanted (None ∷ wanted) [] = are_wanted wanted []
are_wanted (None ∷ wanted) (value ∷ values) = are_wanted wanted values
are_wanted (Some one ∷ wanted) [] = false
are_wanted (Some one ∷ wanted) (value ∷ values) = same_value one value && are_wanted wanted values

-- the values, replaced by the set ones where a column has one
abbrev pub with_set : List (Option Value) → List Value → List Value
with_set [] values = values
with_set (set ∷ sets) [] = []
with_set (set ∷ sets) (value ∷ values) = unwrap_or set value ∷ with_set sets values
