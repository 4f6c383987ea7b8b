use Rattle.std.proofs.Common.{take}
use Rattle.agg_core.specs.Entries.{amount_at}
use Rattle.agg_core.specs.Grouping.{AreItemsByGroup}
use Rattle.agg_core.proofs.groups.group_entries.Given as goal

abbrev pub invariant-loop-entry : goal.invariant-loop-entry
invariant-loop-entry g l =
    AreItemsByGroup g.S.GroupColumn.value_of (g.S.GroupColumn.rows l.column) (amount_at l.amount)
    (take l.entry-index l.entries) l.items.items l.groups.items
