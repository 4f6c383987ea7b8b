use Rattle.std.proofs.Common.{rules, ◌≡◌, ◌+◌, ◌-◌, ◌∷◌, ap, drop, slice_get, sym, ◌∙◌}
use Rattle.std.proofs.lemmas.List.{drop_more}
use Rattle.agg_core.specs.Shares.{rows_in_shares}
use Rattle.agg_core.proofs.GetLemmas.{row_first, row_later}
use Rattle.agg_core.proofs.rows.row_in_shares.Goals as goal
use Rattle.agg_core.proofs.rows.row_in_shares.Goals.{After-len-len}

-- the share is the first of the remaining ones
left_are : (c : After-len-len)
    → drop c.loop-share.share-index c.args.shares.now
    ≡ c.share-item.result ∷ drop (c.loop-share.share-index + 1) c.args.shares.now
left_are c =
    let shares = c.args.shares.now in
    let k = c.loop-share.share-index in
    drop_more shares k c.share-item.result (search rules)
    ∙ ap (λ z. z ∷ drop (k + 1) shares) (sym c.share-item.is)

pub returns-then-left-len : goal.returns-then-left-len
returns-then-left-len c =
    let at = (goal.at.returns-then-left-len c).After-len-len in
    let shares = c.args.shares.now in
    let k = c.loop-share.share-index in
    c.row_at.ensures
    ∙ sym (row_first (drop k shares) (drop (k + 1) shares) c.share-item.result c.loop-share.left (left_are at)
    (search rules))
    ∙ sym c.loop-share.invariant

pub loop-share-preserved : goal.loop-share-preserved
loop-share-preserved c =
    let at = (goal.at.loop-share-preserved c).After-len-len in
    let shares = c.args.shares.now in
    let k = c.loop-share.share-index in
    let later = row_later (drop k shares) (drop (k + 1) shares) c.share-item.result c.loop-share.left (left_are at)
    (search rules) in
    c.loop-share.invariant ∙ later
    ∙ ap (λ n. slice_get (rows_in_shares (drop (k + 1) shares)) (c.loop-share.left - n)) (search rules)
