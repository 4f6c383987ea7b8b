use Rattle.std.proofs.Common.{◌≡◌, ◌<◌, rules, List, [], length, sym, subst, ap, arith}
use Rattle.merge_core.specs.Steps.{StepList}
use Rattle.round_core.specs.ClassLists.{weight_of, HaveNoNeighbours, IsRound}
use Rattle.round_core.specs.Rounds.{AreBoths}
use Rattle.round_core.specs.Together.{all_weight}
use Rattle.round_core.proofs.RoundLemmas.{boths-length, round_of, twos-weight, twos-length, filled_without, filled_with, fewer_or}
use Rattle.round_core.proofs.rounds.round.Goals as goal

pub combine_twos-requires-clause-few : goal.combine_twos-requires-clause-few
combine_twos-requires-clause-few g c κs within =
    let s = c.in_ok-slots.ensures in
    let r = c.in_ok-slots.field-0 in
    let a = ap length c.deref.ensures.value in
    let b = twos-length r.slots.items r.twos.items s.count in
    let d = ap length s.lists in
    let few = c.requires.few in
    omega (arith, a, b, d, few)

pub combine_twos-requires-clause-light : goal.combine_twos-requires-clause-light
combine_twos-requires-clause-light g c κs within =
    let s = c.in_ok-slots.ensures in
    let r = c.in_ok-slots.field-0 in
    let a = ap all_weight c.deref.ensures.value in
    let b = twos-weight r.slots.items r.twos.items s.count in
    let d = ap weight_of s.lists in
    let light = c.requires.light in
    omega (arith, a, b, d, light)

pub fill-requires : goal.fill-requires
fill-requires g c =
    let s = c.in_ok-slots.ensures in
    let r = c.in_ok-slots.field-0 in
    let made = c.in_ok-made.made.items in
    let are : AreBoths r.twos.items made =
    subst (λ (l : List StepList). AreBoths l made) c.deref.ensures.value c.in_ok-made.ensures in
    let n = boths-length r.twos.items made are in
    let count = s.count in
    omega (arith, n, count)

pub returns-clause-round : goal.returns-clause-round
returns-clause-round g c =
    let s = c.in_ok-slots.ensures in
    let r = c.in_ok-slots.field-0 in
    let made = c.in_ok-made.made.items in
    let are : AreBoths r.twos.items made =
    subst (λ (l : List StepList). AreBoths l made) c.deref.ensures.value c.in_ok-made.ensures in
    subst (IsRound c.args.lists.items) (sym c.in_ok-lists.ensures)
    (round_of c.args.lists.items r.slots.items r.twos.items made s.lists are s.count)

pub returns-clause-done : goal.returns-clause-done
returns-clause-done g c = λ yes. (
    let s = c.in_ok-slots.ensures in
    let r = c.in_ok-slots.field-0 in
    let made = c.in_ok-made.made.items in
    let are : AreBoths r.twos.items made =
    subst (λ (l : List StepList). AreBoths l made) c.deref.ensures.value c.in_ok-made.ensures in
    let none : r.twos.items ≡ [] = search rules in
    subst HaveNoNeighbours (sym c.in_ok-lists.ensures)
    (filled_without c.args.lists.items r.slots.items r.twos.items made s.lists are none (s.done none)))

pub returns-clause-fewer : goal.returns-clause-fewer
returns-clause-fewer g c =
    let s = c.in_ok-slots.ensures in
    let r = c.in_ok-slots.field-0 in
    let made = c.in_ok-made.made.items in
    let are : AreBoths r.twos.items made =
    subst (λ (l : List StepList). AreBoths l made) c.deref.ensures.value c.in_ok-made.ensures in
    fewer_or c.is_empty-done.result (length c.in_ok-lists.lists.items < length c.args.lists.items) (λ isnt.
    let some : 0 < length r.twos.items = search rules in
    let n = filled_with c.args.lists.items r.slots.items r.twos.items made s.lists are s.count some in
    let l = ap length c.in_ok-lists.ensures in
    omega (arith, n, l))
