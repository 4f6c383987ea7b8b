use Rattle.std.proofs.Common.{List, arith, ap, length}
use Rattle.std.specs.Global.{Vec}
use Rattle.std.proofs.lemmas.List.{take_all}
use Rattle.list_core.specs.Chunks.{all_in}
use Rattle.match_core.specs.declared.cells.Cell.{Cell}
use Rattle.match_core.specs.Cells.{count_before}
use Rattle.match_core.proofs.RankLemmas.{count_before-none, places_known, ranked_none}
use Rattle.match_core.proofs.ranks.rank_cells.Goals as goal

pub loop-number-init : goal.loop-number-init
loop-number-init g c =
    ranked_none g.V.Ord.cmp g.met.V.Ord.total (all_in c.args.lists.now) (count_before 0 c.args.lists.now)
    c.new-firsts.result.items c.args.ranks.now c.args.places.now.items (count_before-none c.args.lists.now)
    c.new-firsts.ensures.items c.requires.none

pub returns-clause-places : goal.returns-clause-places
returns-clause-places g c =
    let lists = c.args.lists.now in
    let past = c.loop-number-test.false in
    let all = take_all c.loop-number.number lists (omega (arith, past)) in
    places_known g.V.Ord.cmp g.met.V.Ord.total (all_in lists) (count_before c.loop-number.number lists)
    c.loop-number.firsts.items c.loop-number.ranks c.loop-number.places.items
    (ap (λ (l : List (Vec (Cell g.row.V.Denot))). length (all_in l)) all) c.loop-number.invariant
