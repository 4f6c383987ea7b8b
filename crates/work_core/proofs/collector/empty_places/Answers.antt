use Rattle.std.proofs.Common.{◌≡◌, ◌∙◌, Option, None, List, [], ◌∷◌, ◌++◌, replicate, ap, subst, arith}
use Rattle.std.proofs.lemmas.List.{replicate-append-replicate}
use Rattle.work_core.proofs.collector.empty_places.Goals as goal

pub loop-init : goal.loop-init
loop-init g c =
    let new = c.in_ok-places.ensures in
    record { none = new.items; len = new.len; room = omega (arith, new.capacity) }

pub loop-preserved : goal.loop-preserved
loop-preserved g c =
    let was = c.loop.invariant in
    let pushed = c.push_reserved.ensures in
    record {
      none =
          pushed.items ∙ ap (λ (l : List (Option g.row.T.Denot)). l ++ None ∷ []) was.none
          ∙ replicate-append-replicate c.loop.counter 1 None;
      len = omega (arith, pushed.len, was.len);
      room = omega (arith, pushed.capacity, was.room);
    }

pub returns : goal.returns
returns g c =
    let end : c.loop.counter ≡ c.args.count = omega (arith, c.loop-test.false, c.loop.auto.counter-end) in
    subst (λ n. c.loop.places.items ≡ replicate n None) end c.loop.invariant.none
