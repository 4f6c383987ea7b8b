use Rattle.std.proofs.Common.{◌+◌, ◌<◌, All, ℕ}
use Rattle.std.specs.Vec.Iter.{into_iter_items}
use Rattle.work_core.specs.Collected.{ArePlaces}
use Rattle.work_core.specs.Counting.{times}
use Rattle.work_core.specs.Workers.{IsOfItsCall, numbers_of, count_at}
use Rattle.work_core.proofs.drawing.place_all.Given as goal

abbrev pub invariant-loop-numbered : goal.invariant-loop-numbered
invariant-loop-numbered g l = record {
  may_next : (goal.iterator-loop-numbered g).can_next l.numbered-iterator;
  ends : (goal.iterator-loop-numbered g).is_finite l.numbered-iterator;
  are : ArePlaces (g.C.Calls.count_of l.calls) (g.C.Calls.IsValue l.calls) l.places.items;
  rest : All (IsOfItsCall (g.C.Calls.count_of l.calls) (g.C.Calls.IsValue l.calls)) (into_iter_items l.numbered-iterator);
  each : (x : ℕ) → x < g.C.Calls.count_of l.calls
      → 0 < count_at l.initial.places.items x + times x (numbers_of l.fn.values.items)
      → 0 < count_at l.places.items x + times x (numbers_of (into_iter_items l.numbered-iterator));
}
