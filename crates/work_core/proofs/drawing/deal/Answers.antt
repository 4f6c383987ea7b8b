use Rattle.std.proofs.Common.{arith, ◌≡◌, ◌∙◌, ◌++◌, ◌∷◌, ap, refl, List, [], Option, length}
use Rattle.std.proofs.lemmas.List.Elements.{All-push, All-same}
use Rattle.work_core.specs.declared.worker.Worker.{Worker}
use Rattle.work_core.specs.Workers.{IsFreshWorker}
use Rattle.work_core.proofs.Team.{fresh_worker, team_has_places}
use Rattle.std.proofs.Common.{◌+◌}
use Rattle.std.proofs.lemmas.List.Elements.{All-nil}
use Rattle.work_core.specs.Limits.{draw_limit}
use Rattle.work_core.proofs.drawing.deal.Goals as goal

pub loop-preserved : goal.loop-preserved
loop-preserved g c =
    let was = c.loop.invariant in
    let left = c.split.ensures.left in
    let pushed = c.in_ok-push.ensures in
    let team = c.loop.team.items in
    let kept = c.with_places-kept.result in
    let worker : Worker g.row.T.Denot = record { seat = c.split.result; kept = kept } in
    let empty = c.with_places-kept.ensures.0 ∙ c.new.ensures.items in
    let at = c.split.ensures.table.1 ∙ was.table_is in
    let me = c.split.ensures.given in
    let fresh = fresh_worker c.args.seat.now.table_id worker [] at me empty refl c.with_places-kept.ensures.1 in
    let HasNone = λ (w : Worker g.row.T.Denot). length w.kept.places.items ≡ 0 in
    let parts = ap (λ m. m.0.parts) left in
    let room = ap (λ m. m.0.room) left in
    record {
      table_is = c.split.ensures.table.0 ∙ was.table_is;
      parts = omega (arith, parts, was.parts, was.len);
      room = omega (arith, room, was.room);
      drawn = ap (λ m. m.0.drawn) left ∙ was.drawn;
      free = ap (λ m. m.1) left ∙ was.free;
      len = omega (arith, pushed.len, was.len);
      fresh = All-same (IsFreshWorker c.args.seat.now.table_id) c.push.new.self.items (team ++ worker ∷ []) pushed.items
          (All-push (IsFreshWorker c.args.seat.now.table_id) team worker was.fresh fresh);
      none = All-same HasNone c.push.new.self.items (team ++ worker ∷ []) pushed.items
          (All-push HasNone team worker was.none
          (ap (λ (l : List (Option g.row.T.Denot)). length l) empty));
    }

pub returns-clause-fresh : goal.returns-clause-fresh
returns-clause-fresh g c =
    let was = c.loop.invariant in
    let pushed = c.in_ok-push-2.ensures in
    let team = c.loop.team.items in
    let kept = c.with_places-kept-2.result in
    let worker : Worker g.row.T.Denot = record { seat = c.split-2.result; kept = kept } in
    let at = c.split-2.ensures.table.1 ∙ was.table_is in
    let me = c.split-2.ensures.given in
    let fresh = fresh_worker c.args.seat.now.table_id worker c.args.places.items at me c.with_places-kept-2.ensures.0
    c.requires.empty c.with_places-kept-2.ensures.1 in
    All-same (IsFreshWorker c.args.seat.now.table_id) c.push-2.new.self.items (team ++ worker ∷ []) pushed.items
    (All-push (IsFreshWorker c.args.seat.now.table_id) team worker was.fresh fresh)

pub returns-clause-places : goal.returns-clause-places
returns-clause-places g c =
    let was = c.loop.invariant in
    let pushed = c.in_ok-push-2.ensures in
    let team = c.loop.team.items in
    let worker : Worker g.row.T.Denot = record { seat = c.split-2.result; kept = c.with_places-kept-2.result } in
    let n = ap (λ (l : List (Option g.row.T.Denot)). length l) c.with_places-kept-2.ensures.0 in
    team_has_places (length c.args.places.items) team c.push-2.new.self.items worker was.none n pushed.items

pub loop-init : goal.loop-init
loop-init g c =
    let first = c.requires.first in
    let none = c.new-team.ensures.items in
    let IsFresh = IsFreshWorker c.args.seat.now.table_id in
    let HasNone = λ (w : Worker g.row.T.Denot). length w.kept.places.items ≡ 0 in
    record {
      table_is = refl;
      parts = ap (λ m. m.0.parts + 1) first;
      room = ap (λ m. m.0.room + draw_limit) first;
      drawn = ap (λ m. m.0.drawn) first;
      free = ap (λ m. m.1) first;
      len = omega (arith, c.new-team.ensures.len);
      fresh = All-same IsFresh c.new-team.result.items [] none (All-nil IsFresh);
      none = All-same HasNone c.new-team.result.items [] none (All-nil HasNone);
    }

pub split-requires : goal.split-requires
split-requires g c =
    let was = c.loop.invariant in
    let more = c.loop-test.true in
    let few = c.requires.few.1 in
    record {
      table = was.table_is ∙ c.requires.table;
      part = omega (arith, was.parts, more, few);
      room = omega (arith, was.room, more, few);
    }

pub returns-clause-table : goal.returns-clause-table
returns-clause-table g c = c.split-2.ensures.table.0 ∙ c.loop.invariant.table_is

pub returns-clause-left : goal.returns-clause-left
returns-clause-left g c =
    let was = c.loop.invariant in
    let left = c.split-2.ensures.left in
    let parts = ap (λ m. m.0.parts) left in
    let all = c.loop-test.false in
    let end = c.loop.auto.counter-end c.requires.few.0 in (
      omega (arith, parts, was.parts, all, end),
      ap (λ m. m.0.drawn) left ∙ was.drawn,
      ap (λ m. m.1) left ∙ was.free,
    )

pub returns-clause-len : goal.returns-clause-len
returns-clause-len g c =
    let len = c.in_ok-push-2.ensures.len in
    let was = c.loop.invariant.len in
    let all = c.loop-test.false in
    let end = c.loop.auto.counter-end c.requires.few.0 in
    omega (arith, len, was, all, end)
