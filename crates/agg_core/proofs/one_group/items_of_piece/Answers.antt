use Rattle.std.proofs.Common.{◌≡◌, ◌≤◌, List, ◌++◌, ◌∷◌, [], drop, map, min, unwrap_or, take, ap, sym, ◌∙◌, arith}
use Rattle.std.proofs.lemmas.List.{map-append}
use Rattle.table_core.specs.Lent.{lent_row}
use Rattle.dip_core.specs.declared.item.Item.{Item}
use Rattle.work_core.proofs.PieceLemmas.{piece-between}
use Rattle.match_core.proofs.PartLemmas.{one_more}
use Rattle.agg_core.specs.Entries.{amount_at}
use Rattle.agg_core.specs.Grouping.{amount_item}
use Rattle.agg_core.proofs.one_group.items_of_piece.Goals as goal

pub loop-i-preserved : goal.loop-i-preserved
loop-i-preserved c =
    let rows = c.args.rows.now in
    let start = c.places_within-start.result.0 in
    let i = c.loop-i.i in
    let make = amount_item (amount_at c.args.amount) 0 in
    let before = drop start (take i rows) in
    let row = lent_row c.at.result in
    let from : start ≤ i = c.loop-i.invariant.from in
    record {
      from = omega (arith, from);
      upto = omega (arith, c.loop-i-test.true);
      are = c.in_ok-push.ensures.items
          ∙ ap (λ (l : List Item). l ++ c.amount_item.result ∷ []) c.loop-i.invariant.are
          ∙ ap (λ (x : Item). map make before ++ x ∷ []) c.amount_item.ensures
          ∙ sym (map-append make before (row ∷ []))
          ∙ ap (map make) (sym (one_more start i rows row from c.at.ensures));
    }

pub returns : goal.returns
returns c =
    let rows = c.args.rows.now in
    let make = amount_item (amount_at c.args.amount) 0 in
    let places = c.args.places in
    let start = c.places_within-start.result.0 in
    let end = c.places_within-start.result.1 in
    let last : c.loop-i.i ≡ end = omega (arith, c.loop-i.invariant.upto, c.loop-i-test.false) in
    c.loop-i.invariant.are
    ∙ ap (λ n. map make (drop start (take n rows))) last
    ∙ ap (map make)
    (sym (piece-between places start end rows
    (c.places_within-start.ensures.before ∙ ap (λ n. min (unwrap_or places.before n) n) c.len.ensures)
    c.places_within-start.ensures.from))
