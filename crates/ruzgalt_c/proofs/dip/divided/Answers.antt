use Rattle.std.proofs.Common.{◌≡◌, ◌≤◌, List, length, arith, subst, sym}
use Rattle.std.specs.Prelude.{IsPermutation}
use Rattle.std.proofs.lemmas.List.Sorted.{length_permutation}
use Rattle.std.proofs.lemmas.Result.{IfOk-weaker}
use Rattle.dip_core.specs.declared.item.Item.{Item}
use Rattle.dip_core.specs.Item.{item_limit}
use Rattle.dip_core.specs.Division.{IsLeastDivision}
use Rattle.dip_core.proofs.DivisionLemmas.{IsLeastDivision-permutation}
use Rattle.ruzgalt_c.proofs.dip.divided.Goals as goal
use Rattle.ruzgalt_c.proofs.dip.divided.Goals.{After-deref}

-- The sorted items are divided.
sorted_items : (c : After-deref) → IsPermutation c.args.items.now c.deref.result.now
sorted_items c =
    subst (λ (xs : List Item). IsPermutation c.args.items.now xs) (sym c.deref.ensures.value)
    (subst (λ (xs : List Item). IsPermutation xs c.sort_unstable.new.self.items) c.in_ok-sorted.ensures.items
    c.sort_unstable.ensures.permutation)

pub divide_sorted-requires-clause-few : goal.divide_sorted-requires-clause-few
divide_sorted-requires-clause-few c =
    let same = length_permutation c.args.items.now c.deref.result.now (sorted_items c) in
    let few : length c.args.items.now ≤ item_limit = c.requires in
    omega (arith, same, few)

pub returns : goal.returns
returns c =
    let items = c.args.items.now in
    let moved : IsPermutation items c.deref.result.now =
    subst (λ (xs : List Item). IsPermutation items xs) (sym c.deref.ensures.value)
    (subst (λ (xs : List Item). IsPermutation xs c.sort_unstable.new.self.items) c.in_ok-sorted.ensures.items
    c.sort_unstable.ensures.permutation) in
    IfOk-weaker c.divide_sorted.result _ _
    (λ (division : List (List Item)) (least : IsLeastDivision c.deref.result.now division).
    IsLeastDivision-permutation items c.deref.result.now division moved least)
    c.divide_sorted.ensures.least
