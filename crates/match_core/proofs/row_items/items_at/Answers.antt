use Rattle.std.proofs.Common.{◌∙◌, ◌++◌, Option, Some, List, [], ◌∷◌, map, ap, arith}
use Rattle.std.proofs.lemmas.List.{map_push, take_all}
use Rattle.dip_core.specs.declared.item.Item.{Item}
use Rattle.table_core.specs.Lent.{lent_row}
use Rattle.match_core.specs.ClassedPlaces.{item_placed}
use Rattle.match_core.proofs.PlacedLemmas.{item_placed-more}
use Rattle.match_core.proofs.row_items.items_at.Goals as goal

pub loop-i-preserved : goal.loop-i-preserved
loop-i-preserved c =
    let rows = c.args.rows.now in
    let places = c.args.places.now in
    let i = c.loop-i.i in
    ap (map Some) c.in_ok-push.ensures.items
    ∙ map_push Some c.loop-i.items.items c.item_with.result
    ∙ ap (λ (l : List (Option Item)). l ++ Some c.item_with.result ∷ []) c.loop-i.invariant
    ∙ item_placed-more rows places i (record { class = 0; place = 0 }) (lent_row c.at.result) c.item_with.result
    (omega (arith, c.loop-i-test.true)) c.at.ensures c.item_with.ensures

pub returns : goal.returns
returns c =
    let places = c.args.places.now in
    c.loop-i.invariant
    ∙ ap (map (item_placed c.args.rows.now)) (take_all c.loop-i.i places (omega (arith, c.loop-i-test.false)))
