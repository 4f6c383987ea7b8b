use Rattle.std.proofs.Common.{◌≡◌, ◌<◌, take, length, All}
use Rattle.std.specs.Prelude.{filter}
use Rattle.period_core.specs.Period.{holds_at}
use Rattle.row_core.specs.declared.row.Row.{Row}
use Rattle.table_core.specs.Places.{at_places, shown_at}
use Rattle.table_core.specs.Source.{rows_from}
use Rattle.table_core.proofs.shared_rows.places_holding.Given as goal

-- the list has the indexes found among the first rows
abbrev pub invariant-loop-i : goal.invariant-loop-i
invariant-loop-i l = record {
  within : All (λ place. place < length (rows_from l.source)) l.held.items;
  held : at_places l.held.items (rows_from l.source)
      ≡ filter (λ (row : Row). holds_at l.point row.period) (take l.i (shown_at l.places (rows_from l.source)));
}
