use Rattle.std.proofs.Common.{arith, ◌≡◌, ◌∙◌, ap, length, []}
use Rattle.std.proofs.lemmas.List.Elements.{All-rest, All-same}
use Rattle.std.proofs.lemmas.Result.{IfOk-at_ok}
use Rattle.std.specs.Vec.Iter.{into_iter_items}
use Rattle.work_core.specs.declared.kept.KeptValues.{KeptValues}
use Rattle.work_core.specs.declared.worker.WorkerAnswer.{WorkerAnswer}
use Rattle.work_core.specs.Counting.{times}
use Rattle.work_core.specs.Workers.{IsWorkerAnswer, AreOfDrawn}
use Rattle.work_core.proofs.Counting.{times-append}
use Rattle.work_core.proofs.Handed.{joined_me}
use Rattle.work_core.proofs.Places.{All-first}
use Rattle.work_core.proofs.Team.{last_answer, other_answers, kept_places, kept_there, kept_listed, there_both, all_there}
use Rattle.work_core.proofs.drawing.gather.Goals as goal

pub loop-answer-init : goal.loop-answer-init
loop-answer-init g c =
    let count = g.C.Calls.count_of c.args.calls.now in
    let IsValue = g.C.Calls.IsValue c.args.calls.now in
    let table = c.args.seat.table_id in
    let others = c.pop.new.self.items in
    let last = c.in-Some.last in
    let kept = c.in_ok-places.field-0 in
    let made = c.in-Some.ensures.items in
    let is = last_answer count IsValue table c.args.answers.items others last made c.requires.answers in
    let m = joined_me c.args.seat.me last.seat.me c.join.new.seat.me c.join.ensures.both in
    let drawn = last.seat.me.0.drawn in
    let are : AreOfDrawn count IsValue drawn [] kept =
    IfOk-at_ok (AreOfDrawn count IsValue drawn []) c.in_ok-places.was is.values in
    let len : length kept.places.items ≡ count =
    IfOk-at_ok (λ (k : KeptValues g.row.C-Out.Denot). length k.places.items ≡ count)
    c.in_ok-places.was is.places in
    let size = c.in-Some.ensures.len in
    let iter = c.into_iter-answer-iterator.ensures.into_iter_gives in
    record {
      may_next = tt;
      ends = tt;
      table_is = c.join.ensures.table;
      free = m.3 ∙ c.requires.seat.2;
      parts = omega (arith, m.0, is.part, c.requires.seat.0, size, iter.1);
      past = omega (arith, m.1, is.past);
      rest = All-same (IsWorkerAnswer count IsValue table 0)
          (into_iter_items c.into_iter-answer-iterator.result) others iter.0
          (other_answers count IsValue table c.args.answers.items others last made c.requires.answers);
      are = kept_places count IsValue drawn kept are len;
      each = λ x below some.
          kept_there count IsValue drawn kept are len x below
          (let a = ap (times x) m.2 in
          let b = times-append x c.args.seat.me.0.drawn drawn in
          let none = ap (times x) c.requires.seat.1 in
          omega (arith, a, b, none, some));
    }

pub join-requires-in-loop-answer-clause-other : goal.join-requires-in-loop-answer-clause-other
join-requires-in-loop-answer-clause-other g c =
    let table = c.args.seat.table_id in
    let P = λ (a : WorkerAnswer g.row.C-Out.Denot). IsWorkerAnswer (g.C.Calls.count_of c.args.calls.now) (g.C.Calls.IsValue c.args.calls.now) table 0 a in
    let next = c.in-Some-answer.answer in
    let step = c.in-Some-answer.ensures.steps.0 in
    let is : P next = All-first P next (into_iter_items c.next.new.self) _ step c.loop-answer.invariant.rest in
    is.table_is ∙ c.requires.table

pub join-requires-in-loop-answer-clause-free : goal.join-requires-in-loop-answer-clause-free
join-requires-in-loop-answer-clause-free g c =
    let table = c.args.seat.table_id in
    let P = λ (a : WorkerAnswer g.row.C-Out.Denot). IsWorkerAnswer (g.C.Calls.count_of c.args.calls.now) (g.C.Calls.IsValue c.args.calls.now) table 0 a in
    let next = c.in-Some-answer.answer in
    let step = c.in-Some-answer.ensures.steps.0 in
    let is : P next = All-first P next (into_iter_items c.next.new.self) _ step c.loop-answer.invariant.rest in
    is.free

pub place_all-requires-clause-values : goal.place_all-requires-clause-values
place_all-requires-clause-values g c κs within =
    let table = c.args.seat.table_id in
    let P = λ (a : WorkerAnswer g.row.C-Out.Denot). IsWorkerAnswer (g.C.Calls.count_of c.args.calls.now) (g.C.Calls.IsValue c.args.calls.now) table 0 a in
    let next = c.in-Some-answer.answer in
    let step = c.in-Some-answer.ensures.steps.0 in
    let is : P next = All-first P next (into_iter_items c.next.new.self) _ step c.loop-answer.invariant.rest in
    let drawn = next.seat.me.0.drawn in
    (IfOk-at_ok (AreOfDrawn (g.C.Calls.count_of c.args.calls.now) (g.C.Calls.IsValue c.args.calls.now) drawn []) c.in_ok-answer.was is.values).listed

pub loop-answer-preserved : goal.loop-answer-preserved
loop-answer-preserved g c =
    let count = g.C.Calls.count_of c.args.calls.now in
    let IsValue = g.C.Calls.IsValue c.args.calls.now in
    let was = c.loop-answer.invariant in
    let P = λ (a : WorkerAnswer g.row.C-Out.Denot). IsWorkerAnswer count IsValue c.args.seat.table_id 0 a in
    let next = c.in-Some-answer.answer in
    let step = c.in-Some-answer.ensures.steps in
    let rest = into_iter_items c.next.new.self in
    let is : P next = All-first P next rest _ step.0 was.rest in
    let kept = c.in_ok-answer.field-0 in
    let drawn = next.seat.me.0.drawn in
    let are : AreOfDrawn count IsValue drawn [] kept =
    IfOk-at_ok (AreOfDrawn count IsValue drawn []) c.in_ok-answer.was is.values in
    let len : length kept.places.items ≡ 0 =
    IfOk-at_ok (λ (k : KeptValues g.row.C-Out.Denot). length k.places.items ≡ 0) c.in_ok-answer.was is.places in
    let seat = c.join-in-loop-answer.new.seat in
    let m = joined_me c.loop-answer.seat.me next.seat.me seat.me c.join-in-loop-answer.ensures.both in
    record {
      may_next = tt;
      ends = tt;
      table_is = c.join-in-loop-answer.ensures.table ∙ was.table_is;
      free = m.3 ∙ was.free;
      parts = omega (arith, m.0, was.parts, is.part, step.1);
      past = omega (arith, m.1, was.past);
      rest = All-rest P next rest _ step.0 was.rest;
      are = c.place_all.ensures.are;
      each = λ x below some.
          there_both x c.loop-answer.seat.me.0.drawn drawn seat.me.0.drawn c.loop-answer.places.items
          c.place_all.new.places.items kept.values.items m.2 (was.each x below)
          (kept_listed count IsValue drawn kept are len x below) (c.place_all.ensures.each x below) some;
    }

pub returns-clause-all : goal.returns-clause-all
returns-clause-all g c =
    let was = c.loop-answer.invariant in
    let places = c.loop-answer.places.items in
    all_there places (g.C.Calls.count_of c.args.calls.now) was.are.len
    (λ x below.
    let once = c.close.ensures x (omega (arith, was.past, below)) in
    was.each x below (omega (arith, once)))

pub join-requires-clause-table : goal.join-requires-clause-table
join-requires-clause-table g c = c.requires.table

pub join-requires-clause-other : goal.join-requires-clause-other
join-requires-clause-other g c =
    (last_answer (g.C.Calls.count_of c.args.calls.now) (g.C.Calls.IsValue c.args.calls.now) c.args.seat.table_id c.args.answers.items c.pop.new.self.items
    c.in-Some.last c.in-Some.ensures.items c.requires.answers).table_is
    ∙ c.requires.table

pub join-requires-clause-free : goal.join-requires-clause-free
join-requires-clause-free g c =
    (last_answer (g.C.Calls.count_of c.args.calls.now) (g.C.Calls.IsValue c.args.calls.now) c.args.seat.table_id c.args.answers.items c.pop.new.self.items
    c.in-Some.last c.in-Some.ensures.items c.requires.answers).free

pub join-requires-in-loop-answer-clause-table : goal.join-requires-in-loop-answer-clause-table
join-requires-in-loop-answer-clause-table g c = c.loop-answer.invariant.table_is ∙ c.requires.table

pub place_all-requires-clause-are : goal.place_all-requires-clause-are
place_all-requires-clause-are g c κs within = c.loop-answer.invariant.are

pub close-requires-clause-table : goal.close-requires-clause-table
close-requires-clause-table g c = c.loop-answer.invariant.table_is ∙ c.requires.table

pub returns-clause-are : goal.returns-clause-are
returns-clause-are g c = c.loop-answer.invariant.are
