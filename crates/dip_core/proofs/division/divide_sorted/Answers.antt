use Rattle.std.proofs.Common.{◌≡◌, ◌∙◌, List, ℕ, ap, length}
use Rattle.dip_core.specs.Numbers.{parts_numbered}
use Rattle.dip_core.proofs.DivisionLemmas.{no_parts}
use Rattle.dip_core.proofs.PlacingLemmas.{dip-by_numbers, least-by_numbers}
use Rattle.dip_core.proofs.division.divide_sorted.Goals as goal
use Rattle.dip_core.proofs.division.divide_sorted.Goals.{After-drop-numbers-3}

-- the division's parts are those with the numbers
parts_are : (c : After-drop-numbers-3)
    → c.from_parts.result ≡ parts_numbered c.args.sorted.now c.in_ok-numbers.numbers.of_items.items 0
    (length c.in_ok-numbers.numbers.sizes.items)
parts_are c =
    c.from_parts.ensures
    ∙ c.in_ok-parts.ensures
    ∙ ap (λ (ns : List ℕ). parts_numbered c.args.sorted.now ns 0 (length c.deref-2.result.now)) c.deref.ensures.value
    ∙ ap (λ (sizes : List ℕ). parts_numbered c.args.sorted.now c.in_ok-numbers.numbers.of_items.items 0 (length sizes))
    c.deref-2.ensures.value

pub returns-clause-least : goal.returns-clause-least
returns-clause-least c =
    least-by_numbers c.args.sorted.now c.in_ok-numbers.numbers.of_items.items
    (length c.in_ok-numbers.numbers.sizes.items) c.from_parts.result c.in_ok-numbers.ensures (parts_are c)

pub returns-clause-dip : goal.returns-clause-dip
returns-clause-dip c =
    dip-by_numbers c.args.sorted.now c.in_ok-numbers.numbers.of_items.items
    (length c.in_ok-numbers.numbers.sizes.items) c.from_parts.result c.in_ok-numbers.ensures (parts_are c)

pub returns-clause-empty : goal.returns-clause-empty
returns-clause-empty c = no_parts c.args.sorted.now c.from_parts.result (returns-clause-least c).division
