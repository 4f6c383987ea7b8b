use Rattle.std.proofs.Common.{◌∙◌, ap, length}
use Rattle.std.proofs.lemmas.Result.{IfOk-at_ok}
use Rattle.dip_core.proofs.NumbersLemmas.{numbered-halves}
use Rattle.dip_core.proofs.numbers.parts_by_two.Goals as goal

pub returns : goal.returns
returns g c =
    let numbers = c.args.numbers.now in
    c.in_ok-append.ensures.items
    ∙ numbered-halves c.args.items.now numbers.of_items.items c.as_slice-of_items.result.now
    (length c.split_at.result.0.now) (length c.split_at.result.1.now) _ (length numbers.sizes.items)
    c.in_ok-parts.parts.items c.in_ok-high.high.items c.as_slice-of_items.ensures.value c.split_at.ensures.front_len
    (c.split_at.ensures.back_len ∙ ap length c.as_slice.ensures.value)
    (IfOk-at_ok _ c.in_ok-parts.was c.join-low.ensures.first)
    (IfOk-at_ok _ c.in_ok-high.was c.join-low.ensures.second)
