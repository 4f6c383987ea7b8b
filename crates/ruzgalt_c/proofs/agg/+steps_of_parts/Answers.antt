use Rattle.std.proofs.Common.{ℕ, ◌≡◌, ◌+◌, ◌-◌, ◌/◌, ◌<◌, ◌≤◌, ◌++◌, List, length, take, drop, arith, sym, subst, ap, ◌∙◌, length-append}
use Rattle.std.proofs.lemmas.Result.{IfOk-weaker}
use Rattle.dip_core.specs.declared.item.Item.{Item}
use Rattle.dip_core.specs.Item.{item_limit}
use Rattle.dip_core.specs.Division.{all_of, part_at}
use Rattle.merge_core.specs.Steps.{IsStepListOf, StepList}
use Rattle.ruzgalt_c.proofs.AggLemmas.{all_of-halves, all_of-one, run-few}
use Rattle.ruzgalt_c.proofs.agg.+steps_of_parts.Goals as goal

pub returns-then-count-eq1 : goal.returns-then-count-eq1
returns-then-count-eq1 t c =
    let ps = c.args.division.now in
    let first = c.args.first in
    let one : c.args.count ≡ 1 = c.if-count-eq1.true in
    let inside : first < length ps = omega arith in
    let own = c.part.result.items.now in
    let is : own ≡ all_of (take c.args.count (drop first ps)) =
    c.part.ensures ∙ sym (all_of-one ps first inside)
    ∙ ap (λ (n : ℕ). all_of (take n (drop first ps))) (sym one) in
    IfOk-weaker c.of_part.result _ _
    (λ (steps : StepList) of. subst (λ (xs : List Item). IsStepListOf xs steps) is of)
    c.of_part.ensures

pub combine-requires : goal.combine-requires
combine-requires t c =
    let ps = c.args.division.now in
    let first = c.args.first in
    let count = c.args.count in
    let half : ℕ = c.args.count / 2 in
    let a = all_of (take half (drop first ps)) in
    let b = all_of (take (count - half) (drop (first + half) ps)) in
    let both : length (a ++ b) ≡ length a + length b = length-append a b in
    let whole : length (a ++ b) ≡ length (all_of (take count (drop first ps))) =
    ap length (all_of-halves ps first half (count - half) count (omega arith)) in
    let few = run-few ps first count in
    let small : length (all_of ps) ≤ item_limit = c.parts.ensures.small in
    let one = c.in_ok-front.ensures.weight in
    let other = c.in_ok-back.ensures.weight in
    omega (arith, both, whole, few, small, one, other)

pub returns : goal.returns
returns t c =
    let ps = c.args.division.now in
    let first = c.args.first in
    let count = c.args.count in
    let half : ℕ = c.args.count / 2 in
    let a = all_of (take half (drop first ps)) in
    let b = all_of (take (count - half) (drop (first + half) ps)) in
    IfOk-weaker c.combine.result _ _
    (λ (steps : StepList) is.
    subst (λ (xs : List Item). IsStepListOf xs steps) (all_of-halves ps first half (count - half) count (omega arith))
    (is a b c.in_ok-front.ensures c.in_ok-back.ensures))
    c.combine.ensures.items
