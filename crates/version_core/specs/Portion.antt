-- Which rows a change of a portion removes, and what replaces each of them.
use Rattle.std.specs.Prelude.{List, [], ◌∷◌, ◌++◌, Bool, ◌&&◌, Option, Some, None, is_some}
use Rattle.period_core.specs.Period.{before, meet, after as later}
use Rattle.period_core.specs.declared.period.Period.{Period}
use Rattle.row_core.specs.declared.draft.Draft.{Draft}
use Rattle.row_core.specs.declared.row.Row.{Row}
use Rattle.row_core.specs.declared.value.Value.{Value}
use Rattle.version_core.specs.Wanted.{are_wanted, with_set}
use Rattle.version_core.specs.declared.portion_change.PortionChange.{PortionChange}

-- the row has the wanted values, and overlaps the portion
abbrev pub takes_out : PortionChange → Row → Bool
takes_out change row = are_wanted change.conds row.values && is_some (meet row.period change.portion)

-- the period, if there is one, with the values
abbrev pub part : Option Period → List Value → List Draft
part None values = []
part (Some period) values = record { period = period; values = values } ∷ []

-- what a change makes of a row's part inside the portion: the part with the set values, or nothing
abbrev pub inside : Option (List (Option Value)) → Option Period → List Value → List Draft
inside None period values = []
inside (Some sets) period values = part period (with_set sets values)

-- what replaces a removed row: its parts before, inside and after the portion
abbrev pub parts_of : PortionChange → Row → List Draft
parts_of change row =
    part (before row.period change.portion) row.values
    ++ (inside change.sets (meet row.period change.portion) row.values
    ++ part (later row.period change.portion) row.values)
