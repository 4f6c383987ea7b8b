use Rattle.std.proofs.Common.{◌≡◌, drop, slice_get}
use Rattle.agg_core.specs.Shares.{rows_in_shares}
use Rattle.agg_core.proofs.rows.row_in_shares.Given as goal

-- the row is at the remaining index in the remaining shares
abbrev pub invariant-loop-share : goal.invariant-loop-share
invariant-loop-share l =
    slice_get (rows_in_shares l.shares) l.place ≡ slice_get (rows_in_shares (drop l.share-index l.shares)) l.left
