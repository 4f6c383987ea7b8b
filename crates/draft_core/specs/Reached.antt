-- Rows that overlap a portion.
use Rattle.std.specs.Prelude.{Bool, ℕ, List, false, is_some, option_map, slice_get, unwrap_or}
use Rattle.period_core.specs.Period.{meet}
use Rattle.period_core.specs.declared.period.Period.{Period}
use Rattle.row_core.specs.declared.draft.Draft.{Draft}

-- the row at an index overlaps the portion; false past the last
abbrev pub is_reached : Period → List Draft → ℕ → Bool
is_reached portion rows place =
    unwrap_or (option_map (λ (row : Draft). is_some (meet row.period portion)) (slice_get rows place)) false

-- the same of the rows' periods
abbrev pub is_met : Period → List Period → ℕ → Bool
is_met portion periods place =
    unwrap_or (option_map (λ (period : Period). is_some (meet period portion)) (slice_get periods place)) false
