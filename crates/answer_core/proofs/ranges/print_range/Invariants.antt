-- The records at the indices already visited are printed.
use Rattle.std.proofs.Common.{◌≡◌, ◌≤◌, ◌++◌, drop, take}
use Rattle.answer_core.specs.RecordBytes.{bytes_of}
use Rattle.answer_core.proofs.ranges.print_range.Given as goal

abbrev pub invariant-loop-index : goal.invariant-loop-index
invariant-loop-index g l = record {
  upto : (l.start ≤ l.index) × (l.index ≤ l.end);
  printed : l.text ≡ l.fn.text ++ bytes_of (drop l.start (take l.index (g.L.RecordList.records l.list)));
}
