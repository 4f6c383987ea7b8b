use Rattle.std.proofs.Common.{◌≡◌, ◌∙◌, ap, arith, length, map, subst, sym}
use Rattle.std.specs.Prelude.{List}
use Rattle.std.specs.Global.{Vec}
use Rattle.list_core.specs.Chunks.{all_in}
use Rattle.match_core.specs.declared.cells.Cell.{Cell}
use Rattle.match_core.specs.Cells.{AreRanked, AreRanksOf, spot_of}
use Rattle.match_core.specs.ClassedPlaces.{classed_by}
use Rattle.match_core.proofs.RankLemmas.{places_ranked, ranked_from}
use Rattle.match_core.proofs.VecLemmas.{written_back}
use Rattle.match_core.proofs.ranks.rank_side.Goals as goal

pub returns : goal.returns
returns g c =
    let IsOf = g.S.Comparable.IsOf in
    let cmp = g.V.Ord.cmp in
    let classes = g.S.Classed.classes c.args.side in
    let column = g.S.Classed.column c.args.side in
    let cells = all_in c.in_ok-lists.lists.items in
    let firsts = c.in_ok-firsts.firsts.items in
    let old = c.in_ok-ranks.ranks.items in
    let new = c.rank_cells.new.ranks in
    let len : length new ≡ length old = c.rank_cells.auto.ranks ∙ ap length c.deref_mut.ensures.value in
    let kept = written_back old new c.in_ok-ranks.ranks.len len (sym c.in_ok-ranks.ranks.ok.0) in
    let count : length new ≡ length column =
    len ∙ sym c.in_ok-ranks.ranks.ok.0 ∙ c.in_ok-ranks.ensures.len ∙ c.len.ensures in
    let known : AreRanksOf cmp cells new firsts =
    subst (λ (l : List (Vec (Cell g.row.V.Denot))). AreRanksOf cmp (all_in l) new firsts) c.deref.ensures.value
    c.in_ok-firsts.ensures.ranks in
    let sides = g.met.S.Classed g.world.𝓛 g.world.𝓜 g.world.𝓡 ((λ s x. x), (λ x. x), (λ x. x), λ x. x) in
    let counted = sides.counted c.args.side in
    let len : length new ≡ length classes = omega (arith, count, counted) in
    record {
      ranked = subst (λ l. AreRanked cmp IsOf classes column l firsts) (sym kept)
          (ranked_from cmp IsOf classes column cells firsts new count c.in_ok-lists.ensures known
          c.in_ok-firsts.ensures.rise);
      placed = places_ranked cmp IsOf classes column cells new _ c.rank_cells.new.places.items c.in_ok-lists.ensures
          (sym kept) (ap length kept ∙ len)
          (c.in_ok-firsts.ensures.places
          ∙ ap (λ (l : List (Vec (Cell g.row.V.Denot))). map (classed_by new) (map spot_of (all_in l)))
          c.deref.ensures.value);
    }
