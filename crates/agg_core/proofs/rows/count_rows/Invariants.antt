use Rattle.std.proofs.Common.{◌≡◌, length, take}
use Rattle.agg_core.specs.Shares.{rows_in_shares}
use Rattle.agg_core.proofs.rows.count_rows.Given as goal

abbrev pub invariant-loop-share : goal.invariant-loop-share
invariant-loop-share l = l.len ≡ length (rows_in_shares (take l.share-index l.shares))
