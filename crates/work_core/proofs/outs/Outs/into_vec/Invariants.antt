use Rattle.std.proofs.Common.{◌≡◌, ◌++◌, All, IsSome}
use Rattle.std.specs.Vec.Iter.{into_iter_items}
use Rattle.work_core.specs.Collected.{present_values}
use Rattle.work_core.proofs.outs.Outs.into_vec.Given as goal

abbrev pub invariant-loop-place : goal.invariant-loop-place
invariant-loop-place g l = record {
  may_next : (goal.iterator-loop-place g).can_next l.place-iterator;
  ends : (goal.iterator-loop-place g).is_finite l.place-iterator;
  some : All IsSome (into_iter_items l.place-iterator);
  goes_on : l.values.items ++ present_values (into_iter_items l.place-iterator) ≡ l.fn.self;
}
