use Rattle.std.proofs.Common.{List, subst}
use Rattle.std.specs.Global.{Vec}
use Rattle.std.proofs.lemmas.Result.{IfOk-weaker}
use Rattle.list_core.specs.Chunks.{all_in}
use Rattle.match_core.specs.declared.cells.Cell.{Cell}
use Rattle.match_core.specs.Cells.{AreInOrder}
use Rattle.match_core.proofs.MadeCells.{all_sorted}
use Rattle.match_core.proofs.cells.sorted_cells.Goals as goal

pub returns-then-len-eq1 : goal.returns-then-len-eq1
returns-then-len-eq1 g c =
    let sides = g.met.S.Classed g.world.𝓛 g.world.𝓜 g.world.𝓡 ((λ s x. x), (λ x. x), (λ x. x), λ x. x) in
    IfOk-weaker c.sorted_as_one.result _ _
    (λ lists put.
    all_sorted g.V.Ord.cmp g.S.Comparable.IsOf (g.S.Classed.classes c.args.side) (g.S.Classed.column c.args.side)
    (all_in c.in_ok-made.made.items) (all_in lists.items) (sides.counted c.args.side) c.in_ok-made.ensures put)
    c.sorted_as_one.ensures

pub returns-else-len-eq1 : goal.returns-else-len-eq1
returns-else-len-eq1 g c =
    let sides = g.met.S.Classed g.world.𝓛 g.world.𝓜 g.world.𝓡 ((λ s x. x), (λ x. x), (λ x. x), λ x. x) in
    IfOk-weaker c.sorted_by_range.result _ _
    (λ lists put.
    all_sorted g.V.Ord.cmp g.S.Comparable.IsOf (g.S.Classed.classes c.args.side) (g.S.Classed.column c.args.side)
    (all_in c.in_ok-made.made.items) (all_in lists.items) (sides.counted c.args.side) c.in_ok-made.ensures
    (subst (λ (l : List (Vec (Cell g.row.V.Denot))). AreInOrder g.V.Ord.cmp (all_in l) (all_in lists.items))
    c.deref.ensures.value put))
    c.sorted_by_range.ensures
