use Rattle.std.proofs.Common.{rules, arith, ◌≡◌, ◌<◌, ◌+◌, ◌*◌, ◌^◌, ◌≤◌, length, subst, sym, ap, Some, List, Option}
use Rattle.std.specs.Option.{ForSome}
use Rattle.dip_core.specs.declared.item.Item.{Item}
use Rattle.dip_core.specs.Item.{IsBelow, item_limit}
use Rattle.dip_core.specs.Division.{all_of}
use Rattle.dip_core.specs.Placing.{Placing, IsPlaceFor}
use Rattle.dip_core.specs.Heap.{HoldLastEnds}
use Rattle.dip_core.specs.Invariants.{IsPlacing}
use Rattle.dip_core.proofs.AddedLemmas.{length-le-all_of}
use Rattle.dip_core.proofs.DigitsLemmas.{some_digits}
use Rattle.dip_core.proofs.PlacingLemmas.{IsPlacing-added}
use Rattle.dip_core.proofs.StepLemmas.{place-within}
use Rattle.dip_core.proofs.placer.Placer.place.Goals as goal

pub place_item-requires-clause-room : goal.place_item-requires-clause-room
place_item-requires-clause-room c =
    let few = length-le-all_of c.self.inside.parts c.self.invariant.are_placed.filled in
    let counted = c.self.invariant.counted in
    let small = c.self.invariant.small in
    let few_looks = c.self.invariant.few_looks in
    omega (arith, few, counted, small, few_looks)

pub overflow_cast-result : goal.overflow_cast-result
overflow_cast-result c =
    let few = length-le-all_of c.self.inside.parts c.self.invariant.are_placed.filled in
    let within =
    place-within c.self.inside.parts c.args.item.period.from c.in-Ok.number
    c.in-Ok.ensures.place in
    let small = c.self.invariant.small in
    let counted = c.self.invariant.counted in
    search (rules, few, within, small, counted)

pub invariant_of-self-2 : goal.invariant_of-self-2
invariant_of-self-2 c =
    let parts = c.self.inside.parts in
    let number = c.in-Ok.number in
    let item = c.args.item in
    let was : c.self.inside.last ≡ c.args.self.now.last = ap (λ (p : Placing). p.last) c.self.view_is in
    let parts_were : parts ≡ c.args.self.now.parts = ap (λ (p : Placing). p.parts) c.self.view_is in
    let above : ForSome c.self.inside.last (λ z. IsBelow item z → ⊥) =
    subst (λ (last : Option Item). ForSome last (λ z. IsBelow item z → ⊥)) (sym was) c.requires.rises in
    let room : length (all_of parts) < item_limit =
    subst (λ (parts : List (List Item)). length (all_of parts) < item_limit) (sym parts_were) c.requires.room in
    let grown = c.in-Ok.ensures.added in
    let counted = c.self.invariant.counted in
    let few = length-le-all_of parts c.self.invariant.are_placed.filled in
    let looks : c.place_item.new.ends.looks ≤ c.self.inside.ends.looks + 2 * 20 =
    c.in-Ok.ensures.few 20 (omega (arith, few, room)) in
    subst (λ (ps : List (List Item)). IsPlacing ps c.place_item.new.ends (Some item) (c.self.inside.len + 1)) (sym grown)
    (IsPlacing-added parts c.self.inside.ends c.place_item.new.ends c.self.inside.last c.self.inside.len number item
    c.self.invariant above (omega (arith, counted, room)) c.in-Ok.ensures.place c.in-Ok.ensures.heap
    (subst (λ (ps : List (List Item)). HoldLastEnds ps c.place_item.new.ends.ends) grown c.in-Ok.ensures.last_ends)
    (omega (arith, looks)))

pub returns-clause-place : goal.returns-clause-place
returns-clause-place c =
    let parts_were : c.self.inside.parts ≡ c.args.self.now.parts = ap (λ (p : Placing). p.parts) c.self.view_is in
    subst (λ (parts : List
    (List Item)). IsPlaceFor parts c.args.item.period.from c.in-Ok.number) parts_were
    c.in-Ok.ensures.place

pub returns-clause-few_looks : goal.returns-clause-few_looks
returns-clause-few_looks c =
    let parts = c.self.inside.parts in
    let parts_were : parts ≡ c.args.self.now.parts = ap (λ (p : Placing). p.parts) c.self.view_is in
    let looks_were : c.self.inside.ends.looks ≡ c.args.self.now.looks = ap (λ (p : Placing). p.looks) c.self.view_is in
    let same : length parts ≡ length c.args.self.now.parts = ap length parts_were in
    let few = length-le-all_of parts c.self.invariant.are_placed.filled in
    let counted = c.self.invariant.counted in
    let small = c.self.invariant.small in
    let short : length c.args.self.now.parts < 2 ^ 20 = omega (arith, same, few, counted, small) in
    let (digits, has) = some_digits (length c.args.self.now.parts) 20 short in
    let enough = has.enough in
    let looks = c.in-Ok.ensures.few digits (omega (arith, same, enough)) in
    (digits, has, omega (arith, looks, looks_were))
