use Rattle.std.proofs.Common.{List, ap, ◌∙◌}
use Rattle.std.proofs.lemmas.List.{take_all}
use Rattle.agg_core.specs.declared.rows.AggShare.{AggShare}
use Rattle.agg_core.specs.Shares.{rows_in_shares}
use Rattle.agg_core.proofs.GetLemmas.{rows-next}
use Rattle.agg_core.proofs.rows.AggRows.to_vec.Goals as goal

pub loop-share-init : goal.loop-share-init
loop-share-init c = c.in_ok-rows.ensures.items

pub loop-share-preserved : goal.loop-share-preserved
loop-share-preserved c =
    rows-next c.deref-share-items.result.now c.loop-share.share-index c.share-item.result c.loop-share.rows.items
    c.push_share.new.rows.items c.loop-share-test.true c.share-item.is c.loop-share.invariant
    c.in_ok-push_share.ensures

pub returns : goal.returns
returns c =
    c.loop-share.invariant
    ∙ ap (λ (l : List AggShare). rows_in_shares l)
    (take_all c.loop-share.share-index c.deref-share-items.result.now c.loop-share-test.false
    ∙ c.deref-share-items.ensures.value)
    ∙ c.self.view_is
