use Rattle.std.proofs.Common.{List, subst, sym}
use Rattle.std.proofs.lemmas.Result.{IfOk-weaker}
use Rattle.round_core.specs.ClassLists.{IsRound}
use Rattle.round_core.specs.Plateaus.{ArePlateaus}
use Rattle.round_core.specs.declared.class_steps.ClassSteps.{ClassSteps}
use Rattle.round_core.proofs.CollectLemmas.{plateaus_after}
use Rattle.round_core.proofs.ClassLemmas.{grouped-from_rise}
use Rattle.round_core.proofs.plateaus.plateaus_by_rounds.Goals as goal

pub returns : goal.returns
returns g c =
    let stand = c.in_ok-lists.ensures.stand in
    let round = subst (λ (l : List ClassSteps). IsRound l c.in_ok-all.all.items) c.from_vec.ensures.items
    c.in_ok-all.ensures.round in
    let plateaus = c.in_ok-plateaus.plateaus.items in
    IfOk-weaker c.of.result _ _
    (λ all e.
    subst (ArePlateaus c.args.measure c.args.items.now) (sym e)
    (plateaus_after c.args.measure c.args.items.now c.in_ok-lists.lists.items c.in_ok-all.all.items plateaus stand
    round c.in_ok-lists.ensures.rise c.in_ok-all.ensures.ones c.in_ok-plateaus.ensures))
    c.of.ensures

pub shared_lists-requires-clause-grouped : goal.shared_lists-requires-clause-grouped
shared_lists-requires-clause-grouped g c = λ κs outlives. grouped-from_rise c.args.items.now c.requires.rise
