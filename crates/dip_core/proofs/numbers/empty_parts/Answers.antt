use Rattle.std.proofs.Common.{◌∙◌, ◌++◌, ◌∷◌, [], List, ap}
use Rattle.dip_core.specs.declared.item.Item.{Item}
use Rattle.dip_core.proofs.NumbersLemmas.{numbered-nil_push}
use Rattle.dip_core.proofs.numbers.empty_parts.Goals as goal

pub loop-size-preserved : goal.loop-size-preserved
loop-size-preserved c =
    c.in_ok-push.ensures.items
    ∙ ap (λ (part : List Item). c.loop-size.parts.items ++ part ∷ []) c.in_ok-with_capacity.ensures
    ∙ ap (λ (ps : List (List Item)). ps ++ [] ∷ []) c.loop-size.invariant
    ∙ numbered-nil_push 0 c.loop-size.size-index
