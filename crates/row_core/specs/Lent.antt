-- A borrowed value.
use Rattle.row_core.specs.declared.value.Value.{Value}
use Rattle.row_core.specs.declared.value.Value.TheVariants.{Int, Text}
use Rattle.row_core.specs.declared.value_ref.ValueRef.{ValueRef}
use Rattle.row_core.specs.declared.value_ref.ValueRef.TheVariants as lent

-- the value that is borrowed
abbrev pub lent_value : ValueRef → Value
lent_value (lent.Int number) = Int number
lent_value (lent.Text text) = Text text.now
