-- The values of a row.
use Rattle.std.specs.Prelude.{List, []}
use Rattle.std.specs.Arc.{arc_value}
use Rattle.row_core.specs.declared.value.Shared.{Shared}
use Rattle.row_core.specs.declared.value.Shared.TheVariants.{Nothing, One, Two, More}
use Rattle.row_core.specs.declared.value.Value.{Value}

-- the shared values
abbrev pub values_in : Shared → List Value
values_in Nothing = []
values_in (One one) = arc_value one
values_in (Two two) = arc_value two
values_in (More values) = (arc_value values).items
