use Rattle.std.proofs.Common.{◌≡◌, ◌≤◌, None, replicate, vec_len, vec_capacity}
use Rattle.work_core.proofs.collector.empty_places.Given as goal

abbrev pub invariant-loop : goal.invariant-loop
invariant-loop g l = record {
  none : l.places.items ≡ replicate l.counter None;
  len : vec_len l.places ≡ l.counter;
  room : l.count ≤ vec_capacity l.places;
}
