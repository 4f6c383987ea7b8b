use Rattle.std.proofs.Common.{◌+◌, ◌<◌, ◌≤◌, List, length, ap, arith, subst}
use Rattle.std.proofs.lemmas.List.{length-append}
use Rattle.list_core.specs.Wanted.{AddsAll}
use Rattle.grid_core.proofs.BundleLemmas.{none_first}
use Rattle.merge_core.specs.declared.step.Step.{Step}
use Rattle.merge_core.specs.Steps.{StepList}
use Rattle.round_core.specs.Closing.{IsStepPlateau}
use Rattle.round_core.specs.Plateaus.{PlateauBefore}
use Rattle.anti_core.proofs.BundleLemmas.{fewer_behind}
use Rattle.ruzgalt_c.proofs.AggLemmas.{gathering_end, gathering_more, gathering_start}
use Rattle.ruzgalt_c.proofs.agg.plateaus_of_items.Goals as goal

pub classes-init : goal.classes-init
classes-init c =
    gathering_start c.args.measure c.args.items.now c.new-plateaus.result.items c.new-plateaus.ensures.items
    c.requires.rise

pub returns : goal.returns
returns c =
    gathering_end c.args.measure c.args.items.now c.classes.left.now c.classes.plateaus.items
    (none_first c.classes.left.now c.in_default.ensures.value) c.classes.invariant

pub classes-preserved : goal.classes-preserved
classes-preserved c =
    let first = c.in-Some.first.now in
    let list : StepList = c.in_ok-steps.steps in
    let old = c.classes.plateaus.items in
    let new = c.add_plateaus.new.plateaus.items in
    let adds : AddsAll PlateauBefore (IsStepPlateau c.args.measure first.class list.steps) old new =
    subst (λ (steps : List Step). AddsAll PlateauBefore (IsStepPlateau c.args.measure first.class steps) old new)
    c.steps-in-Some.ensures.value c.in_ok-add_plateaus.ensures in
    gathering_more c.args.measure c.args.items.now c.classes.left.now c.parted_behind.result.0.now
    c.parted_behind.result.1.now first list old new c.in-Some.ensures.value c.parted_behind.ensures c.in_ok-steps.ensures
    adds c.classes.invariant

pub classes-smaller : goal.classes-smaller
classes-smaller c =
    fewer_behind c.in-Some.first.now.class c.in-Some.first.now c.classes.left.now c.parted_behind.result.0.now
    c.parted_behind.result.1.now c.in-Some.ensures.value (omega arith) c.parted_behind.ensures

pub steps_of_class-requires-clause-some : goal.steps_of_class-requires-clause-some
steps_of_class-requires-clause-some c =
    let fewer = fewer_behind c.in-Some.first.now.class c.in-Some.first.now c.classes.left.now
    c.parted_behind.result.0.now c.parted_behind.result.1.now c.in-Some.ensures.value (omega arith)
    c.parted_behind.ensures in
    let whole = ap length c.parted_behind.ensures.whole in
    let both = length-append c.parted_behind.result.0.now c.parted_behind.result.1.now in
    omega (arith, fewer, whole, both)

pub steps_of_class-requires-clause-few : goal.steps_of_class-requires-clause-few
steps_of_class-requires-clause-few c =
    let whole = ap length c.parted_behind.ensures.whole in
    let both = length-append c.parted_behind.result.0.now c.parted_behind.result.1.now in
    let few = c.classes.invariant.few in
    let all = c.requires.few in
    omega (arith, whole, both, few, all)
