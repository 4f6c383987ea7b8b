-- The entries of the rows before the index that are within the range.
use Rattle.std.proofs.Common.{Some, take}
use Rattle.agg_core.specs.Entries.{AreEntries, value_at_place}
use Rattle.agg_core.specs.KeyRanges.{rows_in_range}
use Rattle.agg_core.proofs.entries.entries_of.Given as goal

abbrev pub invariant-loop-row : goal.invariant-loop-row
invariant-loop-row g l =
    let value_of = g.S.GroupColumn.value_of in
    let rows = g.S.GroupColumn.rows l.column in
    let place = g.S.GroupColumn.place l.column in
    AreEntries value_of rows place
    (rows_in_range value_of (value_at_place (Some place)) l.range (take l.row rows)) l.entries.items
