-- Equality of values, and their order.
use Rattle.std.specs.Prelude.{Bool, true, false, Option, Some, None, bytes_eq}
use Rattle.std.specs.declared.cmp.Ordering.{Ordering}
use Rattle.std.specs.declared.cmp.Ordering.TheVariants.{Less, Equal, Greater}
use Rattle.std.specs.Ordering.{nat_cmp, int_cmp, int_eq}
use Rattle.std.specs.Cmp.Lexicographic.{slice_cmp}
use Rattle.row_core.specs.declared.value.Value.{Value}
use Rattle.row_core.specs.declared.value.Value.TheVariants.{Int, Text}

-- two values are equal
abbrev pub same_value : Value → Value → Bool
same_value (Int a) (Int b) = int_eq a b
same_value (Text a) (Text b) = bytes_eq a b
same_value (Int a) (Text b) = false
same_value (Text a) (Int b) = false

-- both sides have the same value, or neither has one
abbrev pub same_maybe : Option Value → Option Value → Bool
same_maybe None None = true
same_maybe None (Some b) = false
same_maybe (Some a) None = false
same_maybe (Some a) (Some b) = same_value a b

-- the order of values: numbers before texts, numbers by value, texts by their bytes
abbrev pub value_cmp : Value → Value → Ordering
value_cmp (Int a) (Int b) = int_cmp a b
value_cmp (Int a) (Text b) = Less
value_cmp (Text a) (Int b) = Greater
value_cmp (Text a) (Text b) = slice_cmp nat_cmp a b

-- the same order of optional values; `None` comes first
abbrev pub maybe_cmp : Option Value → Option Value → Ordering
maybe_cmp None None = Equal
maybe_cmp None (Some b) = Less
maybe_cmp (Some a) None = Greater
maybe_cmp (Some a) (Some b) = value_cmp a b
