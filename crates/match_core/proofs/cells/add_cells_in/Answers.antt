use Rattle.std.proofs.Common.{◌∙◌, Global, Vec, arith, ap, sym}
use Rattle.match_core.specs.declared.cells.Cell.{Cell}
use Rattle.match_core.proofs.MadeCells.{kept_more, kept_same}
use Rattle.match_core.proofs.cells.add_cells_in.Goals as goal
use Rattle.match_core.proofs.cells.add_cells_in.Goals.{then-has_cell+in_ok-push, else-has_cell}

pub loop-cell-preserved : goal.loop-cell-preserved
loop-cell-preserved g c =
    let cmp = g.V.Ord.cmp in
    let range = c.args.range.now in
    let cells = c.args.cells.now in
    let i = c.loop-cell.cell-index in
    let old = c.args.found.now.items in
    let found = c.loop-cell.found.items in
    elim c.if-has_cell.branch [
      | then-has_cell+in_ok-push w ↦
          kept_more cmp range cells i c.cell-item.result (omega arith) c.cell-item.is old found
          _ c.loop-cell.invariant (sym c.has_cell.ensures ∙ w.if-has_cell.true)
          (ap (λ (v : Vec (Cell g.row.V.Denot) Global). v.items) w.found-is ∙ w.in_ok-push.ensures.items)
      | else-has_cell w ↦
          kept_same cmp range cells i c.cell-item.result (omega arith) c.cell-item.is old found
          _ c.loop-cell.invariant (sym c.has_cell.ensures ∙ w.if-has_cell.false)
          (ap (λ (v : Vec (Cell g.row.V.Denot) Global). v.items) w.found-is)
    ]
