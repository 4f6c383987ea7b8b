use Rattle.std.proofs.Common.{rules, arith, ◌≡◌, ◌<◌, ◌+◌, List, ℕ, ap, length, subst, sym}
use Rattle.std.specs.Prelude.{min}
use Rattle.std.proofs.Math.Nat.{min-le_left}
use Rattle.dip_core.specs.Heap.{Ending, GetsEnd}
use Rattle.dip_core.proofs.PlacingLemmas.{Numbering, numbering-few, numbering-step, numbering-within}
use Rattle.dip_core.proofs.numbers.place_all.Goals as goal

pub set_end-requires-clause-room : goal.set_end-requires-clause-room
set_end-requires-clause-room c =
    let was = c.loop-item.invariant in
    let few =
    numbering-few c.args.sorted.now c.loop-item.item-index c.loop-item.numbers.items c.loop-item.ends was in
    let looks = was.placing.few_looks in
    let small = was.placing.small in
    let looked = c.part_for-number.ensures.looked in
    let one = min-le_left 1 (length c.loop-item.ends.ends) in
    omega (arith, few, looks, small, looked, one, ap length c.part_for-number.ensures.same)

pub overflow_cast-number : goal.overflow_cast-number
overflow_cast-number c =
    let was = c.loop-item.invariant in
    let few =
    numbering-few c.args.sorted.now c.loop-item.item-index c.loop-item.numbers.items c.loop-item.ends was in
    let within =
    numbering-within c.args.sorted.now c.loop-item.item-index c.loop-item.numbers.items c.loop-item.ends
    c.item-item.result c.part_for-number.result was c.part_for-number.ensures.place in
    let small = was.placing.small in
    search (rules, few, within, small)

pub loop-item-preserved : goal.loop-item-preserved
loop-item-preserved c =
    let sorted = c.args.sorted.now in
    let i = c.loop-item.item-index in
    let was = c.loop-item.invariant in
    let old = c.loop-item.ends in
    let new = c.set_end.new.ends in
    let number = c.part_for-number.result in
    let within : i < length sorted = c.loop-item-test.true in
    let few = numbering-few sorted i c.loop-item.numbers.items old was in
    let small = was.placing.small in
    let same = c.part_for-number.ensures.same in
    let long : length c.part_for-number.new.ends.ends ≡ length old.ends = ap length same in
    let gets : GetsEnd old.ends new.ends number c.item-item.result.period.to =
    subst (λ (ends : List Ending). GetsEnd ends new.ends number c.item-item.result.period.to) same
    c.in_ok-set_end.ensures.last_ends in
    let looks = c.in_ok-set_end.ensures.few 20 (omega (arith, long, few, small)) in
    let looked = c.part_for-number.ensures.looked in
    let mins : min 1 (length c.part_for-number.new.ends.ends) ≡ min 1 (length old.ends) = ap (min 1) long in
    subst (λ (ns : List ℕ). Numbering sorted (i + 1) ns new) (sym c.in_ok-push.ensures.items)
    (numbering-step sorted i c.loop-item.numbers.items old new c.item-item.result number c.requires.sorted
    c.requires.few within c.item-item.is was c.part_for-number.ensures.place c.in_ok-set_end.ensures.heap gets
    (omega (arith, looks, looked, mins)))
