use Rattle.std.proofs.Common.{rules, ◌≡◌, [], sym, subst}
use Rattle.list_core.specs.Wanted.{AddsAll}
use Rattle.round_core.specs.Closing.{IsStepPlateau}
use Rattle.round_core.specs.Plateaus.{PlateauBefore}
use Rattle.round_core.proofs.CollectLemmas.{IsCollecting, collecting_start, collecting_more, collecting_end}
use Rattle.round_core.proofs.closing.plateaus_in.Goals as goal

pub lists-init : goal.lists-init
lists-init c =
    subst (IsCollecting c.args.measure c.args.lists.items c.args.lists.items) (sym c.new-plateaus.ensures.items)
    (collecting_start c.args.measure c.args.lists.items c.requires.rise c.requires.ones)

pub lists-preserved : goal.lists-preserved
lists-preserved c =
    let list = c.in-Some.list in
    let added =
    subst (λ z. AddsAll PlateauBefore (IsStepPlateau c.args.measure list.class z) c.reserve.new.self.items
    c.add_plateaus.new.plateaus.items) c.steps-steps.ensures.value c.in_ok-add_plateaus.ensures in
    collecting_more c.args.measure c.args.lists.items c.lists.lists.items c.pop_front.new.self.items list
    c.lists.plateaus.items c.add_plateaus.new.plateaus.items c.in-Some.ensures.items
    (subst (λ l. AddsAll PlateauBefore (IsStepPlateau c.args.measure list.class list.steps.steps) l
    c.add_plateaus.new.plateaus.items) c.in_ok-reserve.ensures.items added)
    c.lists.invariant

pub returns : goal.returns
returns c =
    let none : c.lists.lists.items ≡ [] = search rules in
    collecting_end c.args.measure c.args.lists.items c.lists.lists.items c.lists.plateaus.items none c.lists.invariant
