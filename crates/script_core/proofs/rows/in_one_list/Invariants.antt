-- The rows already appended come before the rows of the remaining ranges.
use Rattle.std.proofs.Common.{◌≡◌}
use Rattle.script_core.specs.Loads.{all_drafts}
use Rattle.script_core.proofs.Loading.{behind}
use Rattle.script_core.proofs.rows.in_one_list.Given as goal

abbrev pub invariant-loop-range : goal.invariant-loop-range
invariant-loop-range l =
    all_drafts l.fn.ranges.items ≡ behind l.rows (all_drafts l.range-iterator.rest.items)
