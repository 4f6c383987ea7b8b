use Rattle.std.proofs.Common.{arith, ◌<◌, ◌+◌, length, List, subst}
use Rattle.std.proofs.lemmas.List.Elements.{All-rest}
use Rattle.std.specs.Vec.Iter.{into_iter_items}
use Rattle.work_core.specs.declared.numbered.Numbered.{Numbered}
use Rattle.work_core.specs.Counting.{times}
use Rattle.work_core.specs.Workers.{IsOfItsCall, numbers_of, count_at}
use Rattle.work_core.proofs.Places.{All-first, places-put, count_at-set_more}
use Rattle.std.proofs.Common.{◌≡◌, [], ap, sym}
use Rattle.std.proofs.lemmas.List.{nil_from_length}
use Rattle.std.proofs.lemmas.List.Elements.{All-same}
use Rattle.work_core.proofs.drawing.place_all.Goals as goal

pub loop-numbered-preserved-in-Some : goal.loop-numbered-preserved-in-Some
loop-numbered-preserved-in-Some g c =
    let was = c.loop-numbered.invariant in
    let step = c.in-Some.ensures.steps.0 in
    let rest = into_iter_items c.next.new.self in
    let next = c.in-Some.numbered in
    let old = c.loop-numbered.places.items in
    let IsOwn = IsOfItsCall (g.C.Calls.count_of c.args.calls.now) (g.C.Calls.IsValue c.args.calls.now) in
    let own : IsOwn next = All-first IsOwn next rest _ step was.rest in
    let inside : next.number < length old = omega (arith, own.inside, was.are.len) in
    record {
      may_next = tt;
      ends = tt;
      are = places-put (g.C.Calls.IsValue c.args.calls.now) (g.C.Calls.count_of c.args.calls.now) next.number next.value old own.inside own.gives was.are;
      rest = All-rest IsOwn next rest _ step was.rest;
      each = λ x below some.
          count_at-set_more old next.number x next.value (numbers_of rest) inside
          (subst (λ (l : List (Numbered g.row.C-Out.Denot)). 0 < count_at old x + times x (numbers_of l)) step
          (was.each x below some));
    }

pub loop-numbered-preserved : goal.loop-numbered-preserved
loop-numbered-preserved g c =
    let was = c.loop-numbered.invariant in
    let step = c.in-Some.ensures.steps.0 in
    let rest = into_iter_items c.next.new.self in
    let next = c.in-Some.numbered in
    let old = c.loop-numbered.places.items in
    let IsOwn = IsOfItsCall (g.C.Calls.count_of c.args.calls.now) (g.C.Calls.IsValue c.args.calls.now) in
    let own : IsOwn next = All-first IsOwn next rest _ step was.rest in
    let inside : next.number < length old = omega (arith, own.inside, was.are.len) in
    record {
      may_next = tt;
      ends = tt;
      are = places-put (g.C.Calls.IsValue c.args.calls.now) (g.C.Calls.count_of c.args.calls.now) next.number next.value old own.inside own.gives was.are;
      rest = All-rest IsOwn next rest _ step was.rest;
      each = λ x below some.
          count_at-set_more old next.number x next.value (numbers_of rest) inside
          (subst (λ (l : List (Numbered g.row.C-Out.Denot)). 0 < count_at old x + times x (numbers_of l)) step
          (was.each x below some));
    }

pub loop-numbered-init : goal.loop-numbered-init
loop-numbered-init g c =
    let old = c.args.places.now.items in
    let iter = c.into_iter-numbered-iterator.ensures.into_iter_gives in
    record {
      may_next = tt;
      ends = tt;
      are = c.requires.are;
      rest = All-same (IsOfItsCall (g.C.Calls.count_of c.args.calls.now) (g.C.Calls.IsValue c.args.calls.now))
          (into_iter_items c.into_iter-numbered-iterator.result) c.args.values.items iter.0 c.requires.values;
      each = λ x below some.
          subst (λ (l : List (Numbered g.row.C-Out.Denot)). 0 < count_at old x + times x (numbers_of l)) (sym iter.0)
          some;
    }

pub returns-clause-are : goal.returns-clause-are
returns-clause-are g c = c.loop-numbered.invariant.are

pub returns-clause-each : goal.returns-clause-each
returns-clause-each g c = λ x below some.
    let left = c.loop-numbered.numbered-iterator in
    let nil : into_iter_items left ≡ [] =
    nil_from_length (into_iter_items left) (omega (arith, c.in-None.ensures.steps.0, left.rest.ok)) in
    let none = ap (λ (l : List (Numbered g.row.C-Out.Denot)). times x (numbers_of l)) nil in
    let there = c.loop-numbered.invariant.each x below some in
    omega (arith, none, there)
