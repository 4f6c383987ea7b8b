use Rattle.std.proofs.Common.{take}
use Rattle.dip_core.specs.Division.{all_of}
use Rattle.ruzgalt_c.specs.Anti.{AddsAntiRows}
use Rattle.ruzgalt_c.proofs.anti.add_rows_of_parts.Given as goal

abbrev pub invariant-loop-number : goal.invariant-loop-number
invariant-loop-number l =
    AddsAntiRows (all_of (take l.number l.lefts)) l.right.items.now l.fn.rows.items l.rows.items
