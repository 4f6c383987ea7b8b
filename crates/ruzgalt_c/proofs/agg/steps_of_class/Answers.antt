use Rattle.std.proofs.Common.{◌≡◌, ◌<◌, ◌≤◌, List, length, take, arith, subst}
use Rattle.std.proofs.lemmas.List.{take_all}
use Rattle.std.proofs.lemmas.List.Sorted.{IsPermutation-sym, length_permutation}
use Rattle.std.proofs.lemmas.Result.{IfOk-weaker}
use Rattle.dip_core.specs.declared.item.Item.{Item}
use Rattle.dip_core.specs.Division.{all_of}
use Rattle.merge_core.specs.Steps.{IsStepListOf, StepList}
use Rattle.ruzgalt_c.proofs.AggLemmas.{some-parts, steps-permuted}
use Rattle.ruzgalt_c.proofs.agg.steps_of_class.Goals as goal

pub returns-in-Some : goal.returns-in-Some
returns-in-Some c =
    IfOk-weaker c.of_part.result _ _
    (λ (steps : StepList) is. subst (λ (xs : List Item). IsStepListOf xs steps) c.in-Some.ensures.items is)
    c.of_part.ensures

pub steps_of_parts-requires-clause-some : goal.steps_of_parts-requires-clause-some
steps_of_parts-requires-clause-some c =
    let parts : c.parts.result ≡ length c.in_ok-division.division = c.parts.ensures.value in
    let some = some-parts c.args.items.now c.in_ok-division.division c.in_ok-division.ensures.division.together
    c.requires.some in
    omega (arith, parts, some)

pub returns : goal.returns
returns c =
    let items = c.args.items.now in
    let ps = c.in_ok-division.division in
    let parts : c.parts.result ≡ length ps = c.parts.ensures.value in
    IfOk-weaker c.steps_of_parts.result _ _
    (λ (steps : StepList) is.
    steps-permuted (all_of ps) items steps (IsPermutation-sym items (all_of ps) c.in_ok-division.ensures.division.together)
    (subst (λ (l : List (List Item)). IsStepListOf (all_of l) steps) (take_all c.parts.result ps (omega (arith, parts))) is))
    c.steps_of_parts.ensures
