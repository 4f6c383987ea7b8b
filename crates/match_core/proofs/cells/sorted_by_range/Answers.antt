use Rattle.std.proofs.Common.{IfOk, Result, ℕ}
use Rattle.std.specs.Global.{Vec}
use Rattle.std.specs.declared.alloc.AllocError.{AllocError}
use Rattle.std.proofs.lemmas.Result.{IfOk-weaker}
use Rattle.list_core.specs.Chunks.{all_in}
use Rattle.work_core.specs.declared.range.Range.{Range}
use Rattle.match_core.specs.declared.cells.Cell.{Cell}
use Rattle.match_core.specs.Cells.{AreInOrder, cells_in}
use Rattle.match_core.proofs.MadeCells.{ranges_in_order}
use Rattle.match_core.proofs.cells.sorted_by_range.Goals as goal

pub returns : goal.returns
returns g c =
    let order = g.met.V.Ord g.world.𝓛 g.world.𝓜 g.world.𝓡 ((λ s x. x), (λ x. x), (λ x. x), λ x. x) in
    let cmp = g.V.Ord.cmp in
    let made = all_in c.args.made.now in
    let post : Range (Cell g.row.V.Denot) → ℕ → Result (Vec (Cell g.row.V.Denot)) AllocError → Type 0 =
    λ r n found. Range (Cell g.row.V.Denot)
    × IfOk found (λ (cells : Vec (Cell g.row.V.Denot)). AreInOrder cmp (cells_in cmp r made) cells.items) in
    IfOk-weaker c.shared_out.result _ _
    (λ lists given.
    ranges_in_order cmp order.total made post c.args.shares.now.cuts.items lists.items (λ r n cells is. is.1) given)
    c.shared_out.ensures
