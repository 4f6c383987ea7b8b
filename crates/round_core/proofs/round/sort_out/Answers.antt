use Rattle.std.proofs.Common.{rules, ◌≡◌, ◌++◌, [], ◌∷◌, refl, ap, ◌∙◌}
use Rattle.round_core.proofs.SortLemmas.{sorting_aside, sorting_two, sorting_end}
use Rattle.round_core.proofs.round.sort_out.Goals as goal

pub lists-preserved-in-Continue-branch-3 : goal.lists-preserved-in-Continue-branch-3
lists-preserved-in-Continue-branch-3 c =
    let first = c.in-Some.first in
    let second = c.in-Some-take_neighbour.second in
    sorting_two c.args.lists.items c.lists.lists.items c.take_neighbour.new.lists.items c.lists.slots.items
    c.push_back.new.self.items c.lists.twos.items c.push-in-Some-take_neighbour.new.self.items first.class first.steps
    second.steps second
    (c.in-Some.ensures.items ∙ ap (λ z. first ∷ z) c.in-Some-take_neighbour.ensures.split)
    c.in-Some-take_neighbour.ensures.class refl c.in_ok-push_back.ensures.items
    (c.in_ok-push-2.ensures.items ∙ ap (λ z. z ++ second.steps ∷ []) c.in_ok-push.ensures.items) c.lists.invariant

pub lists-preserved : goal.lists-preserved
lists-preserved c =
    sorting_aside c.args.lists.items c.lists.lists.items c.take_neighbour.new.lists.items c.lists.slots.items
    c.push_back-in_default-take_neighbour.new.self.items c.lists.twos.items c.in-Some.first
    (c.in-Some.ensures.items ∙ ap (λ z. c.in-Some.first ∷ z) c.in_default-take_neighbour.ensures.split)
    c.in_default-take_neighbour.ensures.class c.in_ok-push_back-2.ensures.items c.lists.invariant

pub returns-clause-lists : goal.returns-clause-lists
returns-clause-lists c =
    let none : c.lists.lists.items ≡ [] = search rules in
    sorting_end c.args.lists.items c.lists.lists.items c.lists.slots.items c.lists.twos.items none c.lists.invariant
