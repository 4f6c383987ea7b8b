-- The rows of consecutive ranges of a load's records.
use Rattle.std.specs.Prelude.{ℕ, List, Result, flat_map}
use Rattle.row_core.specs.Refusals.{map_ok, read_each}
use Rattle.row_core.specs.declared.draft.Draft.{Draft}
use Rattle.row_core.specs.declared.schema.Column.{Column}
use Rattle.command_core.specs.Records.{Record}
use Rattle.command_core.specs.declared.refusal.Fault.{Fault}
use Rattle.script_core.specs.Effects.{loaded_row, each_or_fault}

-- The rows of numbered records of a load, or the first fault.
abbrev pub drafts_or_fault : List Column → List (ℕ × Record) → Result (List Draft) Fault
drafts_or_fault columns numbered = each_or_fault (loaded_row columns) numbered

-- The rows of all ranges, in order, or the fault of the first range that has one.
abbrev pub all_drafts : List (Result (List Draft) Fault) → Result (List Draft) Fault
all_drafts ranges = map_ok (flat_map (λ rows. rows)) (read_each (λ range. range) ranges)
