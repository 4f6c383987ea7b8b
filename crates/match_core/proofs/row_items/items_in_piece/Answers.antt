use Rattle.std.proofs.Common.{◌≡◌, ◌∙◌, ◌<◌, ◌≤◌, ◌++◌, Global, List, [], ◌∷◌, Vec, length, filter, min, unwrap_or, sym, ap, arith}
use Rattle.std.specs.Ordering.{nat_cmp}
use Rattle.dip_core.specs.declared.item.Item.{Item}
use Rattle.work_core.specs.Ranges.{has}
use Rattle.work_core.proofs.PieceLemmas.{piece-between}
use Rattle.table_core.specs.Lent.{lent_row}
use Rattle.match_core.specs.Items.{items_with}
use Rattle.match_core.proofs.RowItems.{items_from, items_from-more, items_from-same, items_with-piece, length-items_with}
use Rattle.match_core.proofs.row_items.items_in_piece.Goals as goal
use Rattle.match_core.proofs.row_items.items_in_piece.Goals.{then-has+in_ok-push, else-has}

pub loop-i-preserved : goal.loop-i-preserved
loop-i-preserved c =
    let range = c.args.range in
    let rows = c.args.rows.now in
    let classes = c.args.classes.now in
    let start = c.places_within-start.result.0 in
    let i = c.loop-i.i in
    let enough : length rows ≤ length classes = c.requires in
    let inside : i < length rows =
    omega (arith, c.loop-i-test.true, c.places_within-start.ensures.within, c.len.ensures) in
    let known : i < length classes = omega (arith, inside, enough) in
    let from : start ≤ i = c.loop-i.invariant.from in
    record {
      from = omega (arith, from);
      upto = omega (arith, c.loop-i-test.true);
      are = elim c.if-has.branch [
        | then-has+in_ok-push w ↦
            ap (λ (v : Vec Item Global). v.items) w.items-is
            ∙ w.in_ok-push.ensures.items
            ∙ ap (λ (l : List Item). l ++ w.item_with.result ∷ []) c.loop-i.invariant.are
            ∙ ap (λ (x : Item). items_from range rows classes start i ++ x ∷ []) w.item_with.ensures
            ∙ items_from-more range rows classes start i (lent_row w.at.result) from w.at.ensures known
            (sym c.has.ensures ∙ w.if-has.true)
        | else-has w ↦
            ap (λ (v : Vec Item Global). v.items) w.items-is
            ∙ c.loop-i.invariant.are
            ∙ items_from-same range rows classes start i from inside known (sym c.has.ensures ∙ w.if-has.false)
      ];
    }

pub returns : goal.returns
returns c =
    let range = c.args.range in
    let rows = c.args.rows.now in
    let classes = c.args.classes.now in
    let places = c.args.places in
    let all = items_with rows classes in
    let start = c.places_within-start.result.0 in
    let end = c.places_within-start.result.1 in
    let last : c.loop-i.i ≡ end = omega (arith, c.loop-i.invariant.upto, c.loop-i-test.false) in
    let count : length all ≡ c.len.result = length-items_with rows classes c.requires ∙ sym c.len.ensures in
    c.loop-i.invariant.are
    ∙ ap (items_from range rows classes start) last
    ∙ ap (filter (λ (x : Item). has nat_cmp range x.class))
    (sym (items_with-piece places rows classes
    ∙ piece-between places start end all
    (c.places_within-start.ensures.before ∙ ap (λ n. min (unwrap_or places.before n) n) (sym count))
    c.places_within-start.ensures.from))
