use Rattle.std.proofs.lemmas.List.{nil_from_length}
use Rattle.round_core.proofs.ClosingLemmas.{closing_none, closing_start, closing_joined, closing_cut, closing_end}
use Rattle.round_core.proofs.closing.add_plateaus.Goals as goal

pub returns-in_default : goal.returns-in_default
returns-in_default c =
    closing_none c.args.measure c.args.class c.args.steps.now c.args.plateaus.now.items c.in_default.ensures.cases

pub steps-init : goal.steps-init
steps-init c =
    closing_start c.args.measure c.args.class c.args.steps.now c.in-Some.first.now _ c.plateau_of-row.result
    c.args.plateaus.now.items c.in-Some.ensures.cases.0 c.plateau_of-row.ensures c.requires

pub steps-preserved-in-Some-joined : goal.steps-preserved-in-Some-joined
steps-preserved-in-Some-joined c =
    closing_joined c.args.measure c.args.class c.args.steps.now c.steps.left.now _ c.in-Some-split_first.step.now
    c.steps.row _ c.plateau_of-next.result c.args.plateaus.now.items c.steps.plateaus.items
    c.in-Some-split_first.ensures.cases.0 c.plateau_of-next.ensures c.in-Some-joined.ensures.0
    c.in-Some-joined.ensures.1 c.steps.invariant

pub steps-preserved : goal.steps-preserved
steps-preserved c =
    closing_cut c.args.measure c.args.class c.args.steps.now c.steps.left.now _ c.in-Some-split_first.step.now
    c.steps.row c.plateau_of-next.result c.args.plateaus.now.items c.steps.plateaus.items _
    c.in-Some-split_first.ensures.cases.0 c.plateau_of-next.ensures c.in_default-joined.ensures
    c.in_ok-push.ensures.items c.steps.invariant

pub returns : goal.returns
returns c =
    closing_end c.args.measure c.args.class c.args.steps.now c.steps.left.now c.steps.row c.args.plateaus.now.items
    c.steps.plateaus.items c.push-2.new.self.items (nil_from_length _ c.in_default-split_first.ensures.cases)
    c.in_ok-push-2.ensures.items c.steps.invariant
