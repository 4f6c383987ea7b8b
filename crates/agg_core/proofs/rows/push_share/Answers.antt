use Rattle.std.proofs.Common.{List, ◌++◌, map, sym, ap, ◌∙◌, append-nil}
use Rattle.std.specs.Global.{Vec}
use Rattle.std.proofs.lemmas.List.{take_all}
use Rattle.list_core.specs.Chunks.{all_in}
use Rattle.round_core.specs.declared.plateau.Plateau.{Plateau}
use Rattle.agg_core.specs.Grouping.{agg_row_of}
use Rattle.agg_core.proofs.GetLemmas.{chunk-next}
use Rattle.agg_core.proofs.rows.push_share.Goals as goal

pub loop-chunk-init : goal.loop-chunk-init
loop-chunk-init c = sym (append-nil c.args.rows.now.items)

pub loop-chunk-preserved : goal.loop-chunk-preserved
loop-chunk-preserved c =
    let row_of = agg_row_of c.args.share.now.groups.items in
    chunk-next row_of c.args.rows.now.items c.chunks-chunk-items.result.now c.loop-chunk.chunk-index c.chunk-item.result
    c.loop-chunk.rows.items c.push_chunk.new.rows.items c.loop-chunk-test.true c.chunk-item.is c.loop-chunk.invariant
    (c.in_ok-push_chunk.ensures
    ∙ ap (λ (l : List Plateau). c.loop-chunk.rows.items ++ map row_of l) c.deref.ensures.value)

pub returns : goal.returns
returns c =
    let base = c.args.rows.now.items in
    let row_of = agg_row_of c.args.share.now.groups.items in
    c.loop-chunk.invariant
    ∙ ap (λ (l : List (Vec Plateau)). base ++ map row_of (all_in l))
    (take_all c.loop-chunk.chunk-index c.chunks-chunk-items.result.now c.loop-chunk-test.false)
    ∙ ap (λ (l : List Plateau). base ++ map row_of l) c.chunks-chunk-items.ensures.items
