use Rattle.std.proofs.Common.{IfOk, Result, ℕ}
use Rattle.std.specs.Global.{Vec}
use Rattle.std.specs.declared.alloc.AllocError.{AllocError}
use Rattle.std.proofs.lemmas.Result.{IfOk-weaker}
use Rattle.work_core.specs.Pieces.{items_within}
use Rattle.work_core.specs.declared.range.Range.{Range}
use Rattle.match_core.specs.declared.cells.Cell.{Cell}
use Rattle.match_core.specs.Cells.{AreCellsAt}
use Rattle.match_core.specs.ClassedPlaces.{placed_from}
use Rattle.match_core.proofs.MadeCells.{pieces_made}
use Rattle.match_core.proofs.cells.made_cells.Goals as goal

pub returns : goal.returns
returns g c =
    let IsOf = g.S.Comparable.IsOf in
    let classes = g.S.Classed.classes c.args.side in
    let column = g.S.Classed.column c.args.side in
    let post : Range ℕ → ℕ → Result (Vec (Cell g.row.V.Denot)) AllocError → Type 0 =
    λ places n found. Range ℕ × IfOk found (λ (cells : Vec (Cell g.row.V.Denot)).
    AreCellsAt IsOf classes column (items_within places (placed_from 0 classes)) cells.items) in
    IfOk-weaker c.shared_out.result _ _
    (λ lists given.
    pieces_made IsOf classes column post c.in_ok-shares.shares.cuts.items lists.items (λ places n cells is. is.1) given)
    c.shared_out.ensures
