-- The aggregate that a record's fields ask for, or why they ask for none.
use Rattle.std.specs.Prelude.{ℕ, List, [], ◌∷◌, Option, Some, None, Result, Ok, bytes_eq, codes, option_map, if◌then◌else◌}
use Rattle.std.specs.Option.{ok_or, option_and_then}
use Rattle.row_core.specs.Refusals.{and_then, map_ok}
use Rattle.command_core.specs.Fields.{both_ok, name_in}
use Rattle.command_core.specs.Records.{Record}
use Rattle.command_core.specs.declared.aggregate.Aggregate.{Aggregate}
use Rattle.row_core.specs.declared.func.Func.{Func}
use Rattle.row_core.specs.declared.func.Func.TheVariants.{Count, Sum, Min, Max}
use Rattle.command_core.specs.declared.refusal.Refusal.{Refusal}
use Rattle.command_core.specs.declared.refusal.Refusal.TheVariants.{BadCommand}

-- The function over a column's numbers that `word` names.
abbrev pub column_func : List ℕ → List ℕ → Option Func
column_func word column =
    if bytes_eq word (codes "sum") then Some (Sum column)
    else if bytes_eq word (codes "min") then Some (Min column)
    else if bytes_eq word (codes "max") then Some (Max column)
    else None

-- The grouping column, given after the word `by`; `Some None` without any field.
abbrev pub group_named : Record → Option (Option (List ℕ))
group_named [] = Some None
group_named (word ∷ column ∷ []) = if bytes_eq word (codes "by") then Some (Some column) else None
group_named fields = None

-- A function of a table's rows, and the column that they are grouped by.
abbrev pub aggregate_by : List ℕ → Func → Option (List ℕ) → Aggregate
aggregate_by table func by = record { table = table; func = func; by = by }

-- A function of a table's rows, and the grouping that `fields` give.
abbrev pub grouped : List ℕ → Record → Func → Option Aggregate
grouped table fields func = option_map (aggregate_by table func) (group_named fields)

-- The aggregate over a column's numbers: the first field is the column, the others are the grouping.
abbrev pub column_form : List ℕ → List ℕ → Record → Option Aggregate
column_form table word [] = None
column_form table word (column ∷ fields) = option_and_then (grouped table fields) (column_func word column)

-- The table, the function and the grouping, if the fields have the right form: `count` takes no column, the other
-- functions take one.
abbrev pub aggregate_form : Record → Option Aggregate
aggregate_form (verb ∷ table ∷ word ∷ fields) =
    if bytes_eq word (codes "count") then grouped table fields Count else column_form table word fields
aggregate_form line = None

-- The function, or `BadName` if its column's text isn't a name.
abbrev pub named_func : Func → Result Func Refusal
named_func Count = Ok Count
named_func (Sum column) = map_ok Sum (name_in column)
named_func (Min column) = map_ok Min (name_in column)
named_func (Max column) = map_ok Max (name_in column)

-- The grouping column, or `BadName` if its text isn't a name.
abbrev pub named_group : Option (List ℕ) → Result (Option (List ℕ)) Refusal
named_group None = Ok None
named_group (Some column) = map_ok Some (name_in column)

-- The aggregate, or `BadName` if the text of its table or of a column isn't a name.
abbrev pub named_aggregate : Aggregate → Result Aggregate Refusal
named_aggregate aggregate =
    map_ok (λ read. aggregate_by read.0 read.1.0 read.1.1)
    (both_ok (name_in aggregate.table) (both_ok (named_func aggregate.func) (named_group aggregate.by)))

-- The aggregate that a record asks for, or why it asks for none. Its form is tested before its names.
abbrev pub aggregated : Record → Result Aggregate Refusal
aggregated line = and_then (ok_or (aggregate_form line) BadCommand) named_aggregate
