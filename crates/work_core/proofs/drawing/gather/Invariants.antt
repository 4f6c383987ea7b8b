use Rattle.std.proofs.Common.{◌≡◌, ◌+◌, ◌<◌, All, ℕ, []}
use Rattle.std.specs.Vec.Iter.{into_iter_items, into_iter_len}
use Rattle.work_core.specs.Claims.{all_parts}
use Rattle.work_core.specs.Collected.{ArePlaces}
use Rattle.work_core.specs.Counting.{times}
use Rattle.work_core.specs.Workers.{IsWorkerAnswer, count_at}
use Rattle.work_core.proofs.drawing.gather.Given as goal

abbrev pub invariant-loop-answer : goal.invariant-loop-answer
invariant-loop-answer g l = record {
  may_next : (goal.iterator-loop-answer g).can_next l.answer-iterator;
  ends : (goal.iterator-loop-answer g).is_finite l.answer-iterator;
  table_is : l.seat.table_id ≡ l.fn.seat.table_id;
  free : l.seat.me.1 ≡ [];
  parts : l.seat.me.0.parts + into_iter_len l.answer-iterator ≡ all_parts;
  past : g.C.Calls.count_of l.calls < l.seat.me.0.least;
  rest : All (IsWorkerAnswer (g.C.Calls.count_of l.calls) (g.C.Calls.IsValue l.calls) l.fn.seat.table_id 0) (into_iter_items l.answer-iterator);
  are : ArePlaces (g.C.Calls.count_of l.calls) (g.C.Calls.IsValue l.calls) l.places.items;
  each : (x : ℕ) → x < g.C.Calls.count_of l.calls → 0 < times x l.seat.me.0.drawn → 0 < count_at l.places.items x;
}
