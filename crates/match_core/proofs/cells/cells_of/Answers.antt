use Rattle.std.proofs.Common.{◌≡◌, ◌∙◌, ◌<◌, ◌≤◌, List, length, min, unwrap_or, drop, take, arith, ap, subst, sym}
use Rattle.work_core.proofs.PieceLemmas.{piece-between}
use Rattle.match_core.specs.declared.row_items.ClassedPlace.{ClassedPlace}
use Rattle.match_core.specs.Cells.{AreCellsAt}
use Rattle.match_core.specs.ClassedPlaces.{placed_from}
use Rattle.match_core.proofs.MadeCells.{cells_more, length-placed_from, no_cells}
use Rattle.match_core.proofs.cells.cells_of.Goals as goal

pub loop-i-init : goal.loop-i-init
loop-i-init g c =
    let sides = g.met.S.Classed g.world.𝓛 g.world.𝓜 g.world.𝓡 ((λ s x. x), (λ x. x), (λ x. x), λ x. x) in
    let within = c.places_within-start.ensures.within in
    let ordered = c.places_within-start.ensures.ordered in
    let len = c.len.ensures in
    let count = sides.counted c.args.side in
    record {
      from = omega arith;
      upto = omega (arith, ordered);
      are = no_cells g.S.Comparable.IsOf (g.S.Classed.classes c.args.side) (g.S.Classed.column c.args.side)
          c.places_within-start.result.0 c.in_ok-cells.cells.items (omega (arith, within, ordered, len, count))
          c.in_ok-cells.ensures.items;
    }

pub loop-i-preserved : goal.loop-i-preserved
loop-i-preserved g c =
    let sides = g.met.S.Classed g.world.𝓛 g.world.𝓜 g.world.𝓡 ((λ s x. x), (λ x. x), (λ x. x), λ x. x) in
    let classes = g.S.Classed.classes c.args.side in
    let column = g.S.Classed.column c.args.side in
    let i = c.loop-i.i in
    let from : c.places_within-start.result.0 ≤ i = c.loop-i.invariant.from in
    let within = c.places_within-start.ensures.within in
    let len = c.len.ensures in
    let count = sides.counted c.args.side in
    let inside : i < length classes = omega (arith, c.loop-i-test.true, within, len, count) in
    record {
      from = omega (arith, from);
      upto = omega (arith, c.loop-i-test.true);
      are = cells_more g.S.Comparable.IsOf classes column c.places_within-start.result.0 i c.cell_at.result
          c.loop-i.cells.items _ from inside c.cell_at.ensures c.in_ok-push.ensures.items c.loop-i.invariant.are;
    }

pub returns : goal.returns
returns g c =
    let sides = g.met.S.Classed g.world.𝓛 g.world.𝓜 g.world.𝓡 ((λ s x. x), (λ x. x), (λ x. x), λ x. x) in
    let classes = g.S.Classed.classes c.args.side in
    let column = g.S.Classed.column c.args.side in
    let places = c.args.places in
    let all = placed_from 0 classes in
    let start = c.places_within-start.result.0 in
    let end = c.places_within-start.result.1 in
    let last : c.loop-i.i ≡ end = omega (arith, c.loop-i.invariant.upto, c.loop-i-test.false) in
    let long = length-placed_from 0 classes in
    let len = c.len.ensures in
    let counted = sides.counted c.args.side in
    let count : length all ≡ c.len.result = omega (arith, long, len, counted) in
    let is = piece-between places start end all
    (c.places_within-start.ensures.before ∙ ap (λ n. min (unwrap_or places.before n) n) (sym count))
    c.places_within-start.ensures.from in
    subst (λ (l : List ClassedPlace). AreCellsAt g.S.Comparable.IsOf classes column l c.loop-i.cells.items)
    (ap (λ n. drop start (take n all)) last ∙ sym is) c.loop-i.invariant.are
