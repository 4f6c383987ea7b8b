use Rattle.std.proofs.Common.{◌≡◌, ◌+◌, ◌*◌, All, [], length, vec_len}
use Rattle.work_core.specs.Claims.{all_parts}
use Rattle.work_core.specs.Limits.{draw_limit, word_limit}
use Rattle.work_core.specs.Workers.{IsFreshWorker}
use Rattle.work_core.proofs.drawing.deal.Given as goal

abbrev pub invariant-loop : goal.invariant-loop
invariant-loop g l = record {
  table_is : l.seat.table_id ≡ l.initial.seat.table_id;
  parts : l.seat.me.0.parts + l.counter ≡ all_parts + 1;
  room : l.seat.me.0.room + l.counter * draw_limit ≡ word_limit + draw_limit;
  drawn : l.seat.me.0.drawn ≡ [];
  free : l.seat.me.1 ≡ [];
  len : vec_len l.team + 1 ≡ l.counter;
  fresh : All (IsFreshWorker l.initial.seat.table_id) l.team.items;
  none : All (λ worker. length worker.kept.places.items ≡ 0) l.team.items;
}
