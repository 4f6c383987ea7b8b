use Rattle.std.proofs.Common.{◌≡◌, ◌∙◌, Global, IfOk, Result, Vec, map, ℕ}
use Rattle.std.specs.declared.alloc.AllocError.{AllocError}
use Rattle.std.proofs.lemmas.Result.{IfOk-weaker}
use Rattle.work_core.specs.Pieces.{items_within}
use Rattle.work_core.specs.declared.range.Range.{Range}
use Rattle.dip_core.specs.declared.item.Item.{Item}
use Rattle.agg_core.specs.Entries.{amount_at}
use Rattle.agg_core.specs.Grouping.{amount_item}
use Rattle.agg_core.proofs.PieceItems.{items-all}
use Rattle.agg_core.proofs.one_group.items_of_rows.Goals as goal

pub returns : goal.returns
returns g c =
    let rows = c.args.rows.now in
    let make = amount_item (amount_at c.args.amount) 0 in
    let post : Range ℕ → ℕ → Result (Vec Item Global) AllocError → Type 0 =
    λ places n items. Range ℕ × IfOk items (λ (some : Vec Item Global). some.items ≡ map make (items_within places rows)) in
    IfOk-weaker c.in_one_list.result _ _
    (λ items e.
    e ∙ items-all make rows post c.in_ok-shares.shares.cuts.items c.in_ok-lists.lists.items
    (λ places n some given. given.1) c.in_ok-lists.ensures)
    c.in_one_list.ensures
