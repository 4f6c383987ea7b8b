use Rattle.std.proofs.Common.{refl, sym, subst, ap, ◌∙◌, ◌≡◌, ◌+◌, arith}
use Rattle.merge_core.specs.Tallies.{both}
use Rattle.merge_core.specs.Steps.{StepList, IsBoth, tally_at}
use Rattle.merge_core.specs.Combining.{CanAdd, IsBothSteps}
use Rattle.merge_core.proofs.TallyLemmas.{IsStepListOf-append}
use Rattle.merge_core.proofs.WeightLemmas.{can_add, both_kept}
use Rattle.merge_core.proofs.steps.combine.Goals as goal

pub combine_steps-requires-clause-can_add : goal.combine_steps-requires-clause-can_add
combine_steps-requires-clause-can_add c =
    let one_is : c.one.inside.weight ≡ c.args.one.now.weight = ap (λ (v : StepList). v.weight) c.one.view_is in
    let other_is : c.other.inside.weight ≡ c.args.other.now.weight = ap (λ (v : StepList). v.weight) c.other.view_is in
    subst (λ v. CanAdd v c.deref-2.result.now) (sym c.deref.ensures.value)
    (subst (λ v. CanAdd c.one.inside.steps.items v) (sym c.deref-2.ensures.value)
    (can_add c.one.inside.weight c.other.inside.weight c.one.inside.steps.items c.other.inside.steps.items
    (omega (arith, c.requires)) c.one.invariant.weighed c.other.invariant.weighed))

pub invariant_of-result : goal.invariant_of-result
invariant_of-result c =
    both_kept c.one.inside.weight c.other.inside.weight _ c.one.inside.steps.items c.other.inside.steps.items _ refl
    c.one.invariant c.other.invariant
    (subst (λ v. IsBothSteps v c.other.inside.steps.items c.in_ok-steps.steps.items) c.deref.ensures.value
    (subst (λ v. IsBothSteps c.deref.result.now v c.in_ok-steps.steps.items) c.deref-2.ensures.value
    c.in_ok-steps.ensures))

pub returns-clause-items : goal.returns-clause-items
returns-clause-items c xs ys one other =
    let one_is : c.deref.result.now ≡ c.args.one.now.steps =
    c.deref.ensures.value ∙ ap (λ (v : StepList). v.steps) c.one.view_is in
    let other_is : c.deref-2.result.now ≡ c.args.other.now.steps =
    c.deref-2.ensures.value ∙ ap (λ (v : StepList). v.steps) c.other.view_is in
    let is : IsBoth c.args.one.now c.args.other.now
    (record { steps = c.in_ok-steps.steps.items; weight = c.one.inside.weight + c.other.inside.weight }) =
    record {
      tallies = λ t.
          c.in_ok-steps.ensures.tallies t
          ∙ ap (λ v. both (tally_at v t) (tally_at c.deref-2.result.now t)) one_is
          ∙ ap (λ v. both (tally_at c.args.one.now.steps t) (tally_at v t)) other_is;
      weight =
          ap (λ (v : StepList). v.weight + c.other.inside.weight) c.one.view_is
          ∙ ap (λ (v : StepList). c.args.one.now.weight + v.weight) c.other.view_is;
    } in
    IsStepListOf-append c.args.one.now c.args.other.now _ is xs ys one other
