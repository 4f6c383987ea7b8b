-- An aggregate as fields in memory name it, before any name is tested.
use Rattle.std.specs.Prelude.{option_map}
use Rattle.command_core.specs.declared.aggregate.Aggregate.{Aggregate}
use Rattle.row_core.specs.declared.func.Func.{Func}
use Rattle.row_core.specs.declared.func.Func.TheVariants.{Count, Sum, Min, Max}
use Rattle.command_core.specs.declared.aggregate.RawAggregate.{RawAggregate}
use Rattle.command_core.specs.declared.aggregate.RawFunc.{RawFunc}
use Rattle.command_core.specs.declared.aggregate.RawFunc.TheVariants as raw

-- The function of the column that the text names.
abbrev pub func_of : RawFunc → Func
func_of raw.Count = Count
func_of (raw.Sum column) = Sum column.now
func_of (raw.Min column) = Min column.now
func_of (raw.Max column) = Max column.now

-- The aggregate that the texts name.
abbrev pub aggregate_of : RawAggregate → Aggregate
aggregate_of read =
    record { table = read.table.now; func = func_of read.func; by = option_map (λ text. text.now) read.by }
