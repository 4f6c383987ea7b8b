use Rattle.std.proofs.Common.{◌-◌, ◌≡◌, ◌+◌, ◌<◌, ◌≤◌, [], ◌∷◌, length}
use Rattle.std.specs.Prelude.{IfOk, IsErr}
use Rattle.work_core.specs.declared.kept.KeptValues.{KeptValues}
use Rattle.work_core.specs.Counting.{times}
use Rattle.work_core.specs.Limits.{draw_limit}
use Rattle.work_core.specs.Workers.{AreOfDrawn, HasDrawnCall}
use Rattle.work_core.proofs.worker.work.Given as goal

abbrev pub invariant-loop-number : goal.invariant-loop-number
invariant-loop-number g l = record {
  table_is : l.seat.table_id ≡ l.fn.worker.seat.table_id;
  part : l.seat.me.0.parts ≡ 1;
  free : l.seat.me.1 ≡ [];
  reached : l.seat.me.0.least ≡ l.number + 1;
  room : draw_limit ≤ l.seat.me.0.room + l.seat.me.0.least;
  last : 0 < times l.number l.seat.me.0.drawn;
  places : IfOk l.kept (λ (kept : KeptValues g.row.C-Out.Denot). length kept.places.items ≡ length l.fn.worker.kept.places.items);
  drawn : IfOk l.kept (λ (kept : KeptValues g.row.C-Out.Denot). AreOfDrawn (g.C.Calls.count_of l.calls) (g.C.Calls.IsValue l.calls) l.seat.me.0.drawn (l.number ∷ []) kept);
  refused : IsErr l.kept → HasDrawnCall (g.C.Calls.count_of l.calls) (g.C.Calls.IsValue l.calls) l.seat.me.0.drawn;
}

abbrev pub decreases-loop-number : goal.decreases-loop-number
decreases-loop-number g l = l.count - l.number
