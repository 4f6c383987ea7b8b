use Rattle.std.proofs.Common.{Option, IsSome, ◌∷◌, ap, ◌∙◌, sym}
use Rattle.std.proofs.lemmas.List.Elements.{All-rest}
use Rattle.std.specs.Vec.Iter.{into_iter_items}
use Rattle.work_core.proofs.PresentValues.{present_values-next}
use Rattle.std.proofs.Common.{◌≡◌, ◌++◌, [], append-nil, arith}
use Rattle.std.proofs.lemmas.List.{nil_from_length}
use Rattle.std.proofs.lemmas.List.Elements.{All-same}
use Rattle.work_core.specs.Collected.{present_values}
use Rattle.work_core.proofs.Places.{All-first}
use Rattle.work_core.proofs.PresentValues.{not_none}
use Rattle.work_core.proofs.outs.Outs.into_vec.Goals as goal

pub loop-place-preserved : goal.loop-place-preserved
loop-place-preserved g c =
    let was = c.loop-place.invariant in
    let step = c.in-Some.ensures.steps.0 in
    let rest = into_iter_items c.next.new.self in
    record {
      may_next = tt;
      ends = tt;
      some = All-rest IsSome c.in-Some.place rest _ step was.some;
      goes_on =
          present_values-next c.args.self c.loop-place.values.items c.push.new.self.items _ rest c.in-Some-place.value
          (sym (step ∙ ap (λ (p : Option g.row.T.Denot). p ∷ rest) c.in-Some-place.is))
          c.in_ok-push.ensures.items was.goes_on;
    }

pub loop-place-init : goal.loop-place-init
loop-place-init g c =
    let iter = c.into_iter-place-iterator.ensures.into_iter_gives in
    let left = into_iter_items c.into_iter-place-iterator.result in
    record {
      may_next = tt;
      ends = tt;
      some = All-same IsSome left c.self.inside.places.items iter.0 c.self.invariant;
      goes_on =
          ap (λ values. values ++ present_values left) c.in_ok-values.ensures.items
          ∙ ap (λ places. present_values places) iter.0 ∙ c.self.view_is;
    }

pub unreachable-requires : goal.unreachable-requires
unreachable-requires g c =
    let was = c.loop-place.invariant in
    not_none c.in-Some.place c.in_default.is
    (All-first IsSome c.in-Some.place (into_iter_items c.next.new.self) _ c.in-Some.ensures.steps.0 was.some)

pub returns : goal.returns
returns g c =
    let values = c.loop-place.values.items in
    let left = c.loop-place.place-iterator in
    let none : into_iter_items left ≡ [] =
    nil_from_length (into_iter_items left) (omega (arith, c.in-None.ensures.steps.0, left.rest.ok)) in
    sym (append-nil values) ∙ ap (λ places. values ++ present_values places) (sym none)
    ∙ c.loop-place.invariant.goes_on
