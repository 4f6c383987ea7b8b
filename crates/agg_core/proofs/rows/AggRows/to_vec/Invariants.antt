use Rattle.std.proofs.Common.{◌≡◌, take}
use Rattle.agg_core.specs.Shares.{rows_in_shares}
use Rattle.agg_core.proofs.rows.AggRows.to_vec.Given as goal

abbrev pub invariant-loop-share : goal.invariant-loop-share
invariant-loop-share l = l.rows.items ≡ rows_in_shares (take l.share-index l.share-items)
