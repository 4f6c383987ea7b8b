use Rattle.std.proofs.Common.{◌≡◌, ◌∙◌, List, ap, length, subst, sym}
use Rattle.std.specs.Prelude.{IsPermutation}
use Rattle.std.proofs.lemmas.Result.{IfOk-weaker}
use Rattle.dip_core.specs.declared.item.Item.{Item}
use Rattle.dip_core.specs.Item.{HasDistinctIds}
use Rattle.dip_core.specs.Division.{IsDip, IsLeastDivision}
use Rattle.dip_core.specs.Numbers.{parts_numbered}
use Rattle.dip_core.proofs.DivisionLemmas.{no_parts, IsDip-permutation, IsLeastDivision-permutation}
use Rattle.dip_core.proofs.PlacingLemmas.{dip-by_numbers, least-by_numbers}
use Rattle.dip_core.proofs.division.create_dip.Goals as goal
use Rattle.dip_core.proofs.division.create_dip.Given.{Over}
use Rattle.dip_core.proofs.division.create_dip.Goals.{After-drop-items, After-drop-items-2}

-- ---- by one thread

-- the items that are divided are a permutation of the given ones
sorted_items : (g : Over) (c : After-drop-items g) → IsPermutation c.args.items.items c.deref.result.now
sorted_items g c =
    subst (λ (xs : List Item). IsPermutation c.args.items.items xs) (sym c.deref.ensures.value)
    c.sort_unstable.ensures.permutation

pub returns-then-workers-lt2-clause-least : goal.returns-then-workers-lt2-clause-least
returns-then-workers-lt2-clause-least g c =
    IfOk-weaker c.divide_sorted.result _ _
    (λ (division : List (List Item)) (least : IsLeastDivision c.deref.result.now division).
    IsLeastDivision-permutation c.args.items.items c.deref.result.now division (sorted_items g c) least)
    c.divide_sorted.ensures.least

pub returns-then-workers-lt2-clause-dip : goal.returns-then-workers-lt2-clause-dip
returns-then-workers-lt2-clause-dip g c =
    IfOk-weaker c.divide_sorted.result _ _
    (λ (division : List (List Item)) (dip : HasDistinctIds c.deref.result.now → IsDip c.deref.result.now division).
    IsDip-permutation c.args.items.items c.deref.result.now division (sorted_items g c) dip)
    c.divide_sorted.ensures.dip

-- ---- by two threads

-- the numbered items are a permutation of the given ones
numbered_items : (g : Over) (c : After-drop-items-2 g) → IsPermutation c.args.items.items c.deref-2.result.now
numbered_items g c =
    subst (λ (xs : List Item). IsPermutation c.args.items.items xs) (sym c.deref-2.ensures.value)
    c.sort_unstable.ensures.permutation

-- the division's parts are those with the numbers
parts_are : (g : Over) (c : After-drop-items-2 g)
    → c.from_parts.result ≡ parts_numbered c.deref-2.result.now c.in_ok-numbers.numbers.of_items.items 0
    (length c.in_ok-numbers.numbers.sizes.items)
parts_are g c =
    c.from_parts.ensures
    ∙ c.in_ok-parts.ensures
    ∙ ap (λ (xs : List Item). parts_numbered xs c.in_ok-numbers.numbers.of_items.items 0
    (length c.in_ok-numbers.numbers.sizes.items)) (c.deref-3.ensures.value ∙ sym c.deref-2.ensures.value)

pub returns-clause-least : goal.returns-clause-least
returns-clause-least g c =
    IsLeastDivision-permutation c.args.items.items c.deref-2.result.now c.from_parts.result (numbered_items g c)
    (least-by_numbers c.deref-2.result.now c.in_ok-numbers.numbers.of_items.items
    (length c.in_ok-numbers.numbers.sizes.items) c.from_parts.result c.in_ok-numbers.ensures (parts_are g c))

pub returns-clause-dip : goal.returns-clause-dip
returns-clause-dip g c =
    IsDip-permutation c.args.items.items c.deref-2.result.now c.from_parts.result (numbered_items g c)
    (dip-by_numbers c.deref-2.result.now c.in_ok-numbers.numbers.of_items.items
    (length c.in_ok-numbers.numbers.sizes.items) c.from_parts.result c.in_ok-numbers.ensures (parts_are g c))

pub returns-clause-empty : goal.returns-clause-empty
returns-clause-empty g c =
    no_parts c.args.items.items c.from_parts.result (returns-clause-least g c).division
